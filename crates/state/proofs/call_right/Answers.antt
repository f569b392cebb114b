-- `state::call_right` meets its contract: the tests are the definition's.
use mathlib.Core.Path.{refl}
use Rattle.state.specs.Questions.{call_right}
use Rattle.state.proofs.call_right.Goals as goal

-- src/lib.rt:58:1
pub returns : goal.returns
unfolding call_right
returns c = refl
