-- The residual of a block of 4 × 4. A block is a function of row and column, each 0 to 3.
-- Assumes nothing.
use Rattle.std.specs.Prelude.{List, [], ◌∷◌, ℕ, zero, suc, ◌+◌, ◌*◌, ℤ, pos, ◌+ℤ◌, ◌-ℤ◌, ◌*ℤ◌, get_or}
use Rattle.ints.specs.Z.{sat_z, floor_z}

-- the sixteen numbers of l from `at` on, row by row
unfoldable pub placed : List ℤ → ℕ → ℕ → ℕ → ℤ
placed l at r c = get_or l (at + (4 * r + c)) (pos 0)

-- the sixteen numbers of a block, row by row
unfoldable pub listed : (ℕ → ℕ → ℤ) → List ℤ
listed x =
    x 0 0 ∷ x 0 1 ∷ x 0 2 ∷ x 0 3
    ∷ x 1 0 ∷ x 1 1 ∷ x 1 2 ∷ x 1 3
    ∷ x 2 0 ∷ x 2 1 ∷ x 2 2 ∷ x 2 3
    ∷ x 3 0 ∷ x 3 1 ∷ x 3 2 ∷ x 3 3
    ∷ []

-- levels times the quantiser's entry, saturated
unfoldable pub scaled : ℕ → (ℕ → ℕ → ℤ) → ℕ → ℕ → ℤ
scaled scale x r c = sat_z (x r c *ℤ pos scale)

-- four numbers by row k, 0 to 3, of the transform's matrix
unfoldable pub sum_of : ℕ → ℤ → ℤ → ℤ → ℤ → ℤ
sum_of zero a b c d = pos 13 *ℤ a +ℤ pos 17 *ℤ b +ℤ pos 13 *ℤ c +ℤ pos 7 *ℤ d
sum_of (suc zero) a b c d = pos 13 *ℤ a +ℤ pos 7 *ℤ b -ℤ pos 13 *ℤ c -ℤ pos 17 *ℤ d
sum_of (suc (suc zero)) a b c d = pos 13 *ℤ a -ℤ pos 7 *ℤ b -ℤ pos 13 *ℤ c +ℤ pos 17 *ℤ d
sum_of (suc (suc (suc k))) a b c d = pos 13 *ℤ a -ℤ pos 17 *ℤ b +ℤ pos 13 *ℤ c -ℤ pos 7 *ℤ d

-- the same, saturated
unfoldable pub weighed : ℕ → ℤ → ℤ → ℤ → ℤ → ℤ
weighed k a b c d = sat_z (sum_of k a b c d)

-- each row transformed
unfoldable pub rows_of : (ℕ → ℕ → ℤ) → ℕ → ℕ → ℤ
rows_of x r c = weighed c (x r 0) (x r 1) (x r 2) (x r 3)

-- each column transformed
unfoldable pub columns_of : (ℕ → ℕ → ℤ) → ℕ → ℕ → ℤ
columns_of x r c = weighed r (x 0 c) (x 1 c) (x 2 c) (x 3 c)

-- (t + 169 dc + 524,288) / 2^20, rounded down
unfoldable pub rounded : ℤ → ℤ → ℤ
rounded t dc = floor_z (t +ℤ pos 169 *ℤ dc +ℤ pos 524288) 1048576

-- the residuals of a block of levels: rows, then columns, then rounded
unfoldable pub residual : ℕ → ℤ → (ℕ → ℕ → ℤ) → ℕ → ℕ → ℤ
residual scale dc levels r c = rounded (columns_of (rows_of (scaled scale levels)) r c) dc
