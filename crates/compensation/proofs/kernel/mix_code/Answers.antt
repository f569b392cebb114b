-- `compensation::kernel::mix_code` answers `mix_code`.
use mathlib.Core.Path.{refl}
use Rattle.compensation.specs.InnerKernel.{mix_code}
use Rattle.compensation.proofs.kernel.mix_code.Goals as goal

pub returns-clause-is : goal.returns-clause-is
unfolding mix_code
returns-clause-is c = rw (c.mixes_of.ensures, c.way_of.ensures.0, c.way_of-shift.ensures.0) refl
