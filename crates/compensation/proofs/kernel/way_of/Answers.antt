-- `compensation::kernel::way_of` answers `way`.
use mathlib.Core.Path.{refl}
use native.Mathlib.Omega.{arith}
use Rattle.compensation.specs.InnerKernel.{way}
use Rattle.compensation.proofs.kernel.way_of.Goals as goal

pub returns : goal.returns
unfolding way
returns c = (refl, omega arith)
