-- The signed code is a format: the value of a code determines the code.
-- Assumes nothing.
use mathlib.Core.Path.{◌≡◌, refl, ap, ◌∙◌}
use mathlib.Core.Bool.{Bool, true, false}
use Prim.Native.Nat.{ℕ, zero, suc, ◌+◌, ◌-◌, ◌*◌, ◌/◌, ◌%◌, ◌^◌, ◌<◌}
use native.Mathlib.Omega.{arith}
use borrow.Author.Tests.{eqb-true, eqb-false, eq-eqb, ne_eqb}
use lib.IntN.{ℤ, pos, negsuc, neg_ℤ, nat_abs, ◌-ℤ◌, +ℤ_idl}
use lib.Signed.{mag}
use mir.Syntax.{w32}
use mir.Val.{SFits, to_z, of_z}
use mir.Facts.{to_z_pos, to_z-of_z}
use Rattle.refusal.specs.Format.{Format}
use Rattle.refusal.proofs.Formats.{renamed}
use Rattle.bits.specs.Bits.{odd}
use Rattle.bits.specs.Code.{CodeRange}
use Rattle.bits.specs.Signed.{signed_of, code_of_signed, signed_code, signed_bits, SignedRange}
use Rattle.bits.proofs.Unique.{code-format}

abs_neg : (n : ℕ) → nat_abs (neg_ℤ (pos n)) ≡ n
abs_neg zero = refl
abs_neg (suc n) = refl

-- the two signs
pub when-odd : (k : ℕ) → k % 2 ≡ 1 → signed_of k ≡ pos ((k + 1) / 2)
unfolding signed_of
when-odd k h = rw (eq-eqb (k % 2) 1 h)

pub when-even : (k : ℕ) → (k % 2 ≡ 1 → ⊥) → signed_of k ≡ neg_ℤ (pos ((k + 1) / 2))
unfolding signed_of
when-even k h = rw (ne_eqb (k % 2) 1 h)

-- by cases on whether k is odd
by-parity : (P : ℕ → Type 0) (k : ℕ) → (k % 2 ≡ 1 → P k) → ((k % 2 ≡ 1 → ⊥) → P k) → P k
by-parity P k f g = go (odd k) refl
  where
    go : (t : Bool) → odd k ≡ t → P k
    go true e = f (eqb-true (k % 2) 1 e)
    go false e = g (eqb-false (k % 2) 1 e)

there : (k : ℕ) → CodeRange k → SignedRange (signed_of k)
there k h = by-parity (λ k. CodeRange k → SignedRange (signed_of k)) k
    (λ o h. rw (when-odd k o) (omega arith))
    (λ e h. rw (when-even k e, abs_neg ((k + 1) / 2)) (omega arith)) h

back : (z : ℤ) → SignedRange z → CodeRange (code_of_signed z)
unfolding code_of_signed
back (pos a) h = omega arith
back (negsuc a) h = omega arith

to-from : (z : ℤ) → SignedRange z → signed_of (code_of_signed z) ≡ z
unfolding code_of_signed
to-from (pos zero) h = when-even 0 (omega arith)
to-from (pos (suc a)) h = when-odd (2 * suc a - 1) (omega arith) ∙ ap pos (omega arith)
to-from (negsuc a) h = when-even (2 * suc a) (omega arith) ∙ ap (λ n. neg_ℤ (pos n)) {x = (2 * suc a + 1) / 2} {y = suc a} (omega arith)

neg-code : (n : ℕ) → code_of_signed (neg_ℤ (pos n)) ≡ 2 * n
unfolding code_of_signed
neg-code zero = refl
neg-code (suc n) = refl

from-to : (k : ℕ) → CodeRange k → code_of_signed (signed_of k) ≡ k
unfolding code_of_signed
from-to k h = by-parity (λ k. code_of_signed (signed_of k) ≡ k) k
    (λ o. rw (when-odd k o) (omega arith))
    (λ e. rw (when-even k e, neg-code ((k + 1) / 2)) (omega arith))

-- UNIQUE READING of a signed code
pub signed-format : Format signed_code signed_bits SignedRange
unfolding signed_code signed_bits
signed-format = renamed code-format signed_of code_of_signed SignedRange there back to-from from-to

-- ---- what the function computes
zero-less : (n : ℕ) → n < 2 ^ 31 → pos 0 -ℤ to_z w32 n ≡ neg_ℤ (pos n)
zero-less n h = rw (to_z_pos w32 h) (+ℤ_idl (neg_ℤ (pos n)))

mag-neg : (n : ℕ) → n < 2 ^ 31 → mag (neg_ℤ (pos n)) < 2 ^ 31
mag-neg zero h = h
mag-neg (suc n) h = omega arith

pub neg-fits : (n : ℕ) → n < 2 ^ 31 → SFits w32 (pos 0 -ℤ to_z w32 n)
neg-fits n h = record { sfits = rw (zero-less n h) (mag-neg n h) }

pub neg_is : (n : ℕ) → n < 2 ^ 31 → to_z w32 (of_z w32 (pos 0 -ℤ to_z w32 n)) ≡ neg_ℤ (pos n)
neg_is n h = to_z-of_z (neg-fits n h) ∙ zero-less n h
