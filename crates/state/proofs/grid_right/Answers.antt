-- `state::grid_right` meets its contract: the tests are the definition's.
use mathlib.Core.Path.{refl}
use Rattle.state.specs.Questions.{grid_right}
use Rattle.state.proofs.grid_right.Goals as goal

-- src/lib.rt:30:1
pub returns : goal.returns
unfolding grid_right
returns c = refl
