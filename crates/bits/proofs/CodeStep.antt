-- A turn of the loop that reads a universal code, at the definition.
-- Assumes nothing.
use mathlib.Core.Path.{◌≡◌, refl, ap}
use mathlib.Core.Bool.{Bool, true, false}
use mathlib.Core.List.{List}
use Prim.Native.Nat.{ℕ, zero, suc, ◌+◌, ◌-◌, ◌*◌, ◌/◌, ◌^◌, ◌<◌, ◌≤◌}
use native.Mathlib.Nat.{mul-le-mul_right, mul-le-mul_left, le_trans, pow-suc, mul-one}
use native.Mathlib.Omega.{arith}
use lib.Pow.{pow_pos}
use lib.ListN.{length, get_or, drop}
use Rattle.refusal.specs.Got.{Got, got, refused, after}
use Rattle.refusal.specs.declared.Refusal.TheVariants.{Truncated, BadBitWidth}
use Rattle.bits.specs.Bits.{bit_list}
use Rattle.bits.specs.Code.{code_from, bit_value}
use Rattle.refusal.specs.Answered.{answered}
use Rattle.refusal.specs.declared.Refusal.{Refusal}
use Rattle.std.specs.Prelude.{Result, Ok, Err}
use Rattle.bits.proofs.BitAt.{past, here}

-- the answer of reading on from a marker at place p
abbrev pub code_rest : List ℕ → ℕ → ℕ → ℕ → Result (ℕ × ℕ) Refusal
code_rest s p room m = answered p (code_from room m (drop p (bit_list s)))

-- what was taken before counts for the place
pub moved : (p n q : ℕ) (g : Got ℕ) → p + n ≡ q → answered p (after n g) ≡ answered q g
moved p n q (got k m) e = ap (λ (x : ℕ). Ok (k, x)) (omega arith)
moved p n q (refused r) e = refl

module _ (s : List ℕ) (p room m : ℕ) where
  pub ends : length s ≤ p / 8 → code_rest s p room m ≡ Err Truncated
  unfolding code_from
  ends h = rw (past s p h)

  pub stops : p / 8 < length s → true ≡ get_or (bit_list s) p false → code_rest s p room m ≡ Ok (m - 1, p + 1)
  unfolding code_from
  stops h e = rw (here s p h, ← e)

  pub too_long : p / 8 < length s → false ≡ get_or (bit_list s) p false → room ≡ 0 → code_rest s p room m ≡ Err (BadBitWidth 32)
  unfolding code_from
  too_long h e z = rw (here s p h, ← e, z)

-- after a marker 0, the slice ends
pub cut : (s : List ℕ) (p room m : ℕ) → p / 8 < length s → false ≡ get_or (bit_list s) p false → 0 < room → length s ≤ (p + 1) / 8 → code_rest s p room m ≡ Err Truncated
unfolding code_from
cut s p zero m h e z k = absurd (omega arith)
cut s p (suc room) m h e z k = rw (here s p h, past s (p + 1) k, ← e)

-- after a marker 0, a data bit
pub turn : (s : List ℕ) (p room m : ℕ) (d : Bool) → p / 8 < length s → false ≡ get_or (bit_list s) p false → 0 < room → (p + 1) / 8 < length s → d ≡ get_or (bit_list s) (p + 1) false
    → code_rest s p room m ≡ code_rest s (p + 1 + 1) (room - 1) (2 * m + bit_value d)
unfolding code_from
turn s p zero m d h e z k f = absurd (omega arith)
turn s p (suc room) m d h e z k f =
    let one : suc room - 1 ≡ room = omega arith in
    rw (here s p h, here s (p + 1) k, ← e, ← f, one) (moved p 2 (p + 1 + 1) (code_from room (2 * m + bit_value d) (drop (p + 1 + 1) (bit_list s))) (omega arith))

-- m has room for the data bits that may still come: it stays below 2 ^ 32
small : (room m : ℕ) → (m + 1) * 2 ^ room ≤ 2 ^ 32 → m + 1 ≤ 2 ^ 32
small room m h = le_trans (rw mul-one at (mul-le-mul_left (m + 1) (pow_pos room))) h

pub more : (room m d : ℕ) → 0 < room → d ≤ 1 → (m + 1) * 2 ^ room ≤ 2 ^ 32 → (2 * m + d + 1) * 2 ^ (room - 1) ≤ 2 ^ 32
more zero m d z k h = absurd (omega arith)
more (suc room) m d z k h =
    let one : suc room - 1 ≡ room = omega arith in
    let k' : 2 * m + d + 1 ≤ 2 * (m + 1) = omega arith in
    let h' = rw (pow-suc 2 room) at h in
    rw one (omega (arith, h', mul-le-mul_right (2 ^ room) k'))

pub doubled : (room m : ℕ) → 0 < room → (m + 1) * 2 ^ room ≤ 2 ^ 32 → 2 * m + 1 + 1 ≤ 2 ^ 32
doubled room m z h = small (room - 1) (2 * m + 1) (more room m 1 z (omega arith) h)

pub value-le : (d : Bool) → bit_value d ≤ 1
value-le true = omega arith
value-le false = omega arith
