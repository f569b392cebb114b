-- The residual of a macroblock's blocks, one after another, in one plane.
-- Assumes nothing.
use Rattle.std.specs.Prelude.{List, [], ◌∷◌, ℕ, zero, suc, ◌+◌, ◌*◌, ◌/◌, ◌%◌, ltb, ℤ, pos, get_or}
use Rattle.ints.specs.Z.{when◌then◌else◌}
use Rattle.transform.specs.Tables.{dequant_coeff, chroma_coeff}
use Rattle.transform.specs.Residual.{placed, residual}
use Rattle.transform.specs.ChromaDc.{chroma_dc}
use Rattle.transform.specs.Added.{added}
use Rattle.levels.specs.Pattern.{class_of}
use Rattle.levels.specs.Items.{item_coded, item_place}
use Rattle.record.specs.declared.Head.{Head}

-- ---- the residual of the coded luma blocks among the first n

-- INTRA_4X4_BLOCK_RASTER: the raster cell of each block, four blocks for each quadrant
unfoldable pub cell_of_block : ℕ → ℕ
cell_of_block n = get_or (0 ∷ 1 ∷ 4 ∷ 5 ∷ 2 ∷ 3 ∷ 6 ∷ 7 ∷ 8 ∷ 9 ∷ 12 ∷ 13 ∷ 10 ∷ 11 ∷ 14 ∷ 15 ∷ []) n 0

unfoldable pub luma_up_to : ℕ → ℕ → Head → List ℤ → List ℕ → List ℕ
luma_up_to zero cols h levels pic = pic
luma_up_to (suc n) cols h levels pic =
    when item_coded h.pattern n
    then added (luma_up_to n cols h levels pic) (16 * cols) (16 * h.column + 4 * (cell_of_block n % 4)) (16 * h.row + 4 * (cell_of_block n / 4))
    (residual (dequant_coeff h.quantiser) (pos 0) (placed levels (item_place n)))
    else luma_up_to n cols h levels pic

-- ---- the residual of the first n blocks of a chroma plane, Cb 0 or Cr 1, by rows

-- the DC of block n
unfoldable pub dc_of : Head → List ℤ → ℕ → ℕ → ℤ
dc_of h levels plane n = get_or (chroma_dc (chroma_coeff h.quantiser) levels (item_place (16 + plane))) n (pos 0)

unfoldable pub chroma_up_to : ℕ → ℕ → ℕ → Head → List ℤ → List ℕ → List ℕ
chroma_up_to zero plane cols h levels pic = pic
chroma_up_to (suc n) plane cols h levels pic =
    added (chroma_up_to n plane cols h levels pic) (8 * cols) (8 * h.column + 4 * (n % 2)) (8 * h.row + 4 * (n / 2))
    (residual (chroma_coeff h.quantiser) (dc_of h levels plane n) (placed levels (item_place (18 + 4 * plane + n))))

-- class 0 has no chroma residual
unfoldable pub chroma_added : ℕ → ℕ → Head → List ℤ → List ℕ → List ℕ
chroma_added plane cols h levels pic = when ltb 0 (class_of h.pattern) then chroma_up_to 4 plane cols h levels pic else pic
