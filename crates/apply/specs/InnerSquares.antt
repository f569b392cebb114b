-- The residual of four blocks at once, in a square of 8 × 8: contracts of inner functions. proofs/Residuals.antt ties them to specs/Blocks.antt.
-- Assumes nothing.
use Rattle.std.specs.Prelude.{List, ℕ, ◌+◌, ◌*◌, ◌/◌, ◌%◌, ℤ, pos, get_or}
use Rattle.ints.specs.Z.{when◌then◌else◌}
use Rattle.transform.specs.Tables.{chroma_coeff}
use Rattle.transform.specs.InnerResidual.{luma_residual, chroma_residual}
use Rattle.transform.specs.ChromaDc.{chroma_dc}
use Rattle.transform.specs.InnerFour.{added_four}
use Rattle.levels.specs.Pattern.{quadrant_coded}
use Rattle.record.specs.declared.Head.{Head}

-- luma quadrant q, where it is coded
unfoldable pub quadrant_added : ℕ → ℕ → Head → List ℤ → List ℕ → List ℕ
quadrant_added q cols h levels pic =
    when quadrant_coded h.pattern q
    then added_four pic (16 * cols) (16 * h.column + 8 * (q % 2)) (16 * h.row + 8 * (q / 2)) (λ b. luma_residual h.quantiser levels (64 * q + 16 * b))
    else pic

-- a chroma plane, Cb 0 or Cr 1, from column x of row y on
unfoldable pub square_added : ℕ → ℕ → ℕ → ℕ → ℕ → List ℤ → List ℕ → List ℕ
square_added plane stride x y q levels pic =
    added_four pic stride x y (λ b. chroma_residual q (get_or (chroma_dc (chroma_coeff q) levels (256 + 4 * plane)) b (pos 0)) levels (264 + 64 * plane + 16 * b))
