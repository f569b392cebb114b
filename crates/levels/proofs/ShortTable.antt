-- A rule at every number below a bound (crate bits), and tables as digits of a word.
-- Assumes nothing.
use mathlib.Core.Path.{◌≡◌}
use mathlib.Core.Bool.{Bool}
use mathlib.Core.List.{List}
use Prim.Native.Nat.{ℕ, ◌*◌, ◌/◌, ◌%◌, ◌^◌, ◌<◌}
use lib.Dec.{T, eqb, eqb→eq}
use lib.ListN.{get_or}
pub use Rattle.bits.proofs.Table.{both_left, both_right, every, at}

-- the digits of a word are the first 16 entries of a table
abbrev pub digit_right : ℕ → List ℕ → ℕ → Bool
digit_right word table i = eqb (word / 2 ^ (4 * i) % 16) (get_or table i 0)

pub digits : (word : ℕ) (table : List ℕ) → T (every (digit_right word table) 16) → (i : ℕ) → i < 16 → word / 2 ^ (4 * i) % 16 ≡ get_or table i 0
digits word table t i h = eqb→eq (word / 2 ^ (4 * i) % 16) (get_or table i 0) (at (digit_right word table) 16 t i h)
