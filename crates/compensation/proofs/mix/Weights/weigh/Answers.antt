-- `Weights::weigh` answers `weighed`.
use mathlib.Core.Path.{refl}
use Rattle.compensation.specs.InnerKernel.{weighed}
use Rattle.compensation.proofs.mix.Weights.weigh.Goals as goal

pub returns : goal.returns
unfolding weighed
returns c = refl
