-- Signed numbers are the number form under another name of its values.
-- Assumes nothing.
use mathlib.Core.Path.{◌≡◌}
use mathlib.Core.Logic.{⊎_elim}
use Prim.Native.Nat.{ℕ, ◌+◌, ◌*◌, ◌/◌, ◌%◌, ◌≤◌, ◌<◌}
use native.Mathlib.Omega.{arith}
use borrow.Author.Tests.{eq-eqb, ne_eqb}
use lib.IntN.{ℤ, pos, negsuc}
use lib.ListN.{length}
use Rattle.refusal.specs.Format.{Format}
use Rattle.refusal.proofs.Formats.{renamed}
use Rattle.number.specs.Number.{NumberRange}
use Rattle.number.specs.SignedNumber.{sent, received, SignedNumberRange, signed_number, read_signed}
use Rattle.number.proofs.Numbers.{number-format, number-length, zero-or-more}

received-sent : (z : ℤ) → received (sent z) ≡ z
unfolding sent received
received-sent (pos n) =
    let h : 2 * n / 2 ≡ n = omega arith in
    rw (ne_eqb (2 * n % 2) 1 (omega arith), h)
received-sent (negsuc n) =
    let h : (2 * n + 1) / 2 ≡ n = omega arith in
    rw (eq-eqb ((2 * n + 1) % 2) 1 (omega arith), h)

sent-received : (n : ℕ) → sent (received n) ≡ n
unfolding sent received
sent-received n = ⊎_elim
    (λ (e : n % 2 ≡ 0). rw (ne_eqb (n % 2) 1 (λ f. omega arith)) (omega arith))
    (λ (h : 0 < n % 2). rw (eq-eqb (n % 2) 1 (omega arith)) (omega arith))
    (zero-or-more (n % 2))

-- an i32 is sent as 32 bits
sent-range : (z : ℤ) → SignedNumberRange z → NumberRange (sent z)
unfolding sent
sent-range (pos n) h = omega arith
sent-range (negsuc n) h = omega arith

received-range : (n : ℕ) → NumberRange n → SignedNumberRange (received n)
unfolding received
received-range n h = ⊎_elim
    (λ (e : n % 2 ≡ 0). rw (ne_eqb (n % 2) 1 (λ f. omega arith)) (omega arith))
    (λ (k : 0 < n % 2). rw (eq-eqb (n % 2) 1 (omega arith)) (omega arith))
    (zero-or-more (n % 2))

-- SIGNED NUMBERS
pub signed-format : Format read_signed signed_number SignedNumberRange
unfolding read_signed signed_number
signed-format = renamed number-format received sent SignedNumberRange received-range sent-range (λ z h. received-sent z) (λ n h. sent-received n)

pub signed-length : (z : ℤ) → (1 ≤ length (signed_number z)) × (length (signed_number z) ≤ 5)
unfolding signed_number
signed-length z = number-length (sent z)
