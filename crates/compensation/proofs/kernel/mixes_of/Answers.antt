-- `compensation::kernel::mixes_of` answers the entry of `mixes`: each arm by the number that it was taken for.
use mathlib.Core.Path.{◌≡◌, sym, ap}
use native.Mathlib.Omega.{arith}
use lib.ListN.{get_or}
use Rattle.compensation.specs.InnerKernel.{mixes}
use Rattle.compensation.proofs.kernel.mixes_of.Goals as goal

pub returns-in-0 : goal.returns-in-0
unfolding mixes
returns-in-0 c = let e : c.args.down ≡ 0 = omega (arith, c.in-0.is) in sym (ap (λ k. get_or mixes k 0) e)

pub returns-in-1 : goal.returns-in-1
unfolding mixes
returns-in-1 c = let e : c.args.down ≡ 1 = omega (arith, c.in-1.is) in sym (ap (λ k. get_or mixes k 0) e)

pub returns-in-2 : goal.returns-in-2
unfolding mixes
returns-in-2 c = let e : c.args.down ≡ 2 = omega (arith, c.in-2.is) in sym (ap (λ k. get_or mixes k 0) e)

pub returns-in_default : goal.returns-in_default
unfolding mixes
returns-in_default c = let e : c.args.down ≡ 3 = omega arith in sym (ap (λ k. get_or mixes k 0) e)
