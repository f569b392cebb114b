-- `compensation::kernel::raise` answers `raised`: the last bit of the other tap.
use mathlib.Core.Path.{◌≡◌, ap, ◌∙◌}
use Prim.Native.Nat.{ℕ, zero, suc, ◌/◌, ◌%◌, ◌≤◌}
use native.Mathlib.Omega.{arith}
use lib.Bits.{bit_and, bit_or, or_step, and_zero_r, or_zero_r, and_mask}
use Rattle.compensation.specs.InnerKernel.{raised}
use Rattle.compensation.proofs.kernel.raise.Goals as goal

with-bit : (a b : ℕ) → bit_or a (b % 2) ≡ raised 1 a b
unfolding raised
with-bit a b =
    let none : b % 2 / 2 ≡ 0 = omega arith in
    or_step a (b % 2) ∙ rw (none, or_zero_r (a / 2)) (omega arith)

is : (m a b : ℕ) → m ≤ 1 → bit_or a (bit_and b m) ≡ raised m a b
unfolding raised
is zero a b h = rw (and_zero_r b, or_zero_r a) (omega arith)
is (suc zero) a b h = ap (bit_or a) (and_mask b 1) ∙ with-bit a b
is (suc (suc m)) a b h = absurd (omega arith)

pub returns : goal.returns
returns c = let a = c.args in is a.m a.a a.b c.requires
