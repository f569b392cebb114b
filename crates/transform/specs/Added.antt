-- A plane after residuals were added to it.
-- Assumes nothing.
use Rattle.std.specs.Prelude.{List, ℕ, ℤ, pos, ◌+ℤ◌}
use Rattle.ints.specs.Z.{clip1_z}
use Rattle.picture.specs.Painted.{painted}
use Rattle.picture.specs.Picture.{seen}

-- the sample at column x + c of row y + r and its residual, held in 0 to 255
unfoldable pub reconstructed : List ℕ → ℕ → ℕ → ℕ → (ℕ → ℕ → ℤ) → ℕ → ℕ → ℕ
reconstructed plane stride x y residual r c = clip1_z (pos (seen plane stride x y r c) +ℤ residual r c)

-- a plane after a block of 4 × 4 residuals is added from column x of row y on
unfoldable pub added : List ℕ → ℕ → ℕ → ℕ → (ℕ → ℕ → ℤ) → List ℕ
added plane stride x y residual = painted stride x y 4 4 (reconstructed plane stride x y residual) plane
