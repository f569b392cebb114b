-- `Weights::sample` answers `mixed_taps`.
use mathlib.Core.Path.{refl}
use Rattle.compensation.specs.InnerKernel.{mixed_taps}
use Rattle.compensation.proofs.mix.Weights.sample.Goals as goal

pub returns : goal.returns
unfolding mixed_taps
returns c = rw (c.weigh.ensures, c.raise-4.ensures, c.raise-3.ensures, c.raise-2.ensures, c.raise.ensures) refl
