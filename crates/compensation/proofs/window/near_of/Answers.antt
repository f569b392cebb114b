-- `compensation::window::near_of` meets its contract: before the first, one of them, past the last.
use native.Mathlib.Omega.{arith}
use Rattle.compensation.specs.InnerKernel.{near}
use Rattle.compensation.proofs.window.near_of.Goals as goal

pub returns : goal.returns
unfolding near
returns c = (omega arith, omega arith)
