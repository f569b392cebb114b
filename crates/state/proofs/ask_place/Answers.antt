-- `state::ask_place` meets its contract.
use mathlib.Core.Path.{◌∙◌}
use Rattle.state.specs.Questions.{ask_place}
use Rattle.state.proofs.ask_place.Goals as goal

pub returns : goal.returns
unfolding ask_place
returns c = c.ask.ensures ∙ rw c.place_in.ensures
