-- `state::state_right` meets its contract: a grid has at most 2^24 macroblocks.
use native.Mathlib.Omega.{arith}
use Rattle.state.specs.Questions.{state_right}
use Rattle.state.proofs.Laws.{grid-size}
use Rattle.state.proofs.state_right.Goals as goal

-- src/lib.rt:48:13
pub overflow_mul-n : goal.overflow_mul-n
overflow_mul-n c = omega (arith, grid-size c.args.grid.cols c.args.grid.rows c.requires)

-- src/lib.rt:49:63
pub overflow_mul-result : goal.overflow_mul-result
overflow_mul-result c = omega (arith, grid-size c.args.grid.cols c.args.grid.rows c.requires)

-- src/lib.rt:49:58
pub overflow_mul-result-2 : goal.overflow_mul-result-2
overflow_mul-result-2 c = omega (arith, grid-size c.args.grid.cols c.args.grid.rows c.requires)

-- src/lib.rt:49:86
pub overflow_mul-result-3 : goal.overflow_mul-result-3
overflow_mul-result-3 c = omega (arith, grid-size c.args.grid.cols c.args.grid.rows c.requires)

-- src/lib.rt:44:1
pub returns : goal.returns
unfolding state_right
returns c = rw c.planes_right.ensures
