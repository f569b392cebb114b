-- `state::ask_quantiser` meets its contract.
use Rattle.state.specs.Questions.{ask_quantiser}
use Rattle.state.proofs.ask_quantiser.Goals as goal

pub returns : goal.returns
unfolding ask_quantiser
returns c = c.ask.ensures
