-- The arms of a `match` on a number: the entry of the number that an arm was taken for, and what is left for the last arm.
-- Assumes nothing.
use mathlib.Core.Path.{◌≡◌, sym, ap}
use mathlib.Core.List.{List}
use Prim.Native.Nat.{ℕ, zero, suc, ◌≤◌}
use native.Mathlib.Omega.{arith}
use lib.ListN.{get_or}

pub entry : (table : List ℕ) (k i : ℕ) → i ≡ k → get_or table k 0 ≡ get_or table i 0
entry table k i e = sym (ap (λ n. get_or table n 0) e)

-- i is none of the numbers below n
abbrev pub NoneOf : ℕ → ℕ → Type 0
NoneOf zero i = Unit {0}
NoneOf (suc n) i = NoneOf n i × (i ≡ n → ⊥)

pub last : (n i : ℕ) → NoneOf n i → n ≤ i
last zero i r = omega arith
last (suc n) i r = omega (arith, last n i r.0, r.1)
