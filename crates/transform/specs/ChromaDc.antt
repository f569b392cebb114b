-- The DC of the four blocks of a chroma plane, from the four DC levels.
-- Assumes nothing.
use Rattle.std.specs.Prelude.{List, [], ◌∷◌, ℕ, ◌+◌, ℤ, pos, ◌+ℤ◌, ◌-ℤ◌, ◌*ℤ◌, get_or}
use Rattle.ints.specs.Z.{sat_z, toward_zero}

-- half of a sum, toward zero, saturated
unfoldable pub sat_half : ℤ → ℤ
sat_half z = sat_z (toward_zero z 2)

-- the four sums of `chroma_dc_secondary_transform`
unfoldable pub secondary : ℤ → ℤ → ℤ → ℤ → List ℤ
secondary a b c d =
    sat_half (a +ℤ b +ℤ c +ℤ d) ∷ sat_half (a -ℤ b +ℤ c -ℤ d) ∷ sat_half (a +ℤ b -ℤ c -ℤ d) ∷ sat_half (a -ℤ b -ℤ c +ℤ d) ∷ []

-- the level at place n times the entry, saturated
unfoldable pub scaled_at : ℕ → List ℤ → ℕ → ℤ
scaled_at scale levels n = sat_z (get_or levels n (pos 0) *ℤ pos scale)

-- of the four levels from `at` on
unfoldable pub chroma_dc : ℕ → List ℤ → ℕ → List ℤ
chroma_dc scale levels at =
    secondary (scaled_at scale levels at) (scaled_at scale levels (at + 1)) (scaled_at scale levels (at + 2)) (scaled_at scale levels (at + 3))
