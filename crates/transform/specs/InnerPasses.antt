-- What the passes over four blocks hold: contracts of inner functions.
-- Assumes nothing.
use Rattle.std.specs.Prelude.{◌≡◌, Bool, List, [], ◌∷◌, map, ℕ, ◌+◌, ◌*◌, ◌<◌, ◌≤◌, leb, ℤ, pos, nat_abs, ◌*ℤ◌, length, get_or}
use Rattle.std.specs.List.{list_all}
use Rattle.transform.specs.Residual.{sum_of, rounded}

-- four numbers within -m to m
pub record Small (m : ℕ) (a b c d : ℤ) : Type 0 where
  pub first : nat_abs a ≤ m
  pub second : nat_abs b ≤ m
  pub third : nat_abs c ≤ m
  pub fourth : nat_abs d ≤ m

-- the four sums of four numbers
unfoldable pub sums_of : ℤ → ℤ → ℤ → ℤ → List ℤ
sums_of a b c d = sum_of 0 a b c d ∷ sum_of 1 a b c d ∷ sum_of 2 a b c d ∷ sum_of 3 a b c d ∷ []

-- each number lies within -m to m
abbrev pub all_within : ℕ → List ℤ → Bool
all_within m l = list_all (λ v. leb (nat_abs v) m) l

-- the number at place n times the entry
unfoldable pub exact_at : ℕ → List ℤ → ℕ → ℤ
exact_at scale l n = get_or l n (pos 0) *ℤ pos scale

-- four levels from place n on, times the entry, within ±800,000
abbrev pub SmallFrom : ℕ → List ℤ → ℕ → Type 0
SmallFrom scale l n = Small 800000 (exact_at scale l n) (exact_at scale l (n + 1)) (exact_at scale l (n + 2)) (exact_at scale l (n + 3))

-- they, transformed
unfoldable pub row_sums : ℕ → List ℤ → ℕ → List ℤ
row_sums scale l n = sums_of (exact_at scale l n) (exact_at scale l (n + 1)) (exact_at scale l (n + 2)) (exact_at scale l (n + 3))

-- 64 levels, small enough at the entry that nothing saturates
pub record Exact (scale : ℕ) (levels : List ℤ) : Type 0 where
  pub room : 64 ≤ length levels
  pub small : (i : ℕ) → i < 16 → SmallFrom scale levels (4 * i)

-- y has the rows of four levels, transformed, up to row i
pub record Rows (scale : ℕ) (levels : List ℤ) (i : ℕ) (y : List (List ℤ)) : Type 0 where
  pub size : length y ≡ 16
  pub done : (j : ℕ) → j < i → get_or y j [] ≡ row_sums scale levels (4 * j)

-- column c of the block of the first four rows, transformed and rounded
unfoldable pub column_sums : List (List ℤ) → ℕ → ℤ → List ℤ
column_sums y c dc = map (λ t. rounded t dc) (sums_of (get_or (get_or y 0 []) c (pos 0)) (get_or (get_or y 1 []) c (pos 0)) (get_or (get_or y 2 []) c (pos 0)) (get_or (get_or y 3 []) c (pos 0)))

-- r has the first c columns of the block of the first four rows of y
pub record Columns (y : List (List ℤ)) (dc : ℤ) (c : ℕ) (r : List ℤ) : Type 0 where
  pub size : length r ≡ 16
  pub done : (j k : ℕ) → j < 4 → k < c → get_or r (4 * j + k) (pos 0) ≡ get_or (column_sums y k dc) j (pos 0)
