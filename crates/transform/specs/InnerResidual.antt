-- The residuals of luma and chroma blocks, as the code has their levels.
-- Assumes nothing.
use Rattle.std.specs.Prelude.{List, ℕ, ℤ, pos}
use Rattle.transform.specs.Tables.{dequant_coeff, chroma_coeff}
use Rattle.transform.specs.Residual.{placed, residual}

-- a block without levels
unfoldable pub no_levels : ℕ → ℕ → ℤ
no_levels r c = pos 0

-- of a luma block of sixteen levels from `at` on
unfoldable pub luma_residual : ℕ → List ℤ → ℕ → ℕ → ℕ → ℤ
luma_residual q levels at = residual (dequant_coeff q) (pos 0) (placed levels at)

-- of a chroma block, with its DC
unfoldable pub chroma_residual : ℕ → ℤ → List ℤ → ℕ → ℕ → ℕ → ℤ
chroma_residual q dc levels at = residual (chroma_coeff q) dc (placed levels at)
