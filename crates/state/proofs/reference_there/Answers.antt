-- `state::reference_there` meets its contract: the tests are the definition's.
use mathlib.Core.Path.{refl}
use Rattle.state.specs.Questions.{reference_there}
use Rattle.state.proofs.reference_there.Goals as goal

-- src/lib.rt:52:1
pub returns : goal.returns
unfolding reference_there
returns c = refl
