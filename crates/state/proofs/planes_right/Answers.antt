-- `state::planes_right` meets its contract: a grid has at most 2^24 macroblocks.
use mathlib.Core.Path.{refl}
use native.Mathlib.Omega.{arith}
use Rattle.state.specs.Questions.{planes_right}
use Rattle.state.proofs.Laws.{grid-size}
use Rattle.state.proofs.planes_right.Goals as goal

-- src/lib.rt:40:13
pub overflow_mul-n : goal.overflow_mul-n
overflow_mul-n c = omega (arith, grid-size c.args.grid.cols c.args.grid.rows c.requires)

-- src/lib.rt:41:11
pub overflow_mul-result : goal.overflow_mul-result
overflow_mul-result c = omega (arith, grid-size c.args.grid.cols c.args.grid.rows c.requires)

-- src/lib.rt:41:29
pub overflow_mul-result-2 : goal.overflow_mul-result-2
overflow_mul-result-2 c = omega (arith, grid-size c.args.grid.cols c.args.grid.rows c.requires)

-- src/lib.rt:41:46
pub overflow_mul-result-3 : goal.overflow_mul-result-3
overflow_mul-result-3 c = omega (arith, grid-size c.args.grid.cols c.args.grid.rows c.requires)

-- src/lib.rt:36:1
pub returns : goal.returns
unfolding planes_right
returns c = refl
