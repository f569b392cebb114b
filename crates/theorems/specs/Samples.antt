-- The three planes of a picture, sample by sample: what compensation and the residual say of the sample at column x of row y.
-- Assumes nothing.
use Rattle.std.specs.Prelude.{Bool, List, ℕ, ◌+◌, ◌*◌, ◌/◌, ◌%◌, ltb, ℤ, pos, ◌+ℤ◌, get_or}
use Rattle.ints.specs.Z.{when◌then◌else◌, toward_zero, floor_z, clip1_z}
use Rattle.compensation.specs.Sample.{tap, sample_at, sixths}
use Rattle.transform.specs.Tables.{dequant_coeff, chroma_coeff}
use Rattle.transform.specs.Residual.{placed, residual}
use Rattle.levels.specs.Pattern.{class_of, quadrant_coded}
use Rattle.levels.specs.Items.{item_place}
use Rattle.record.specs.Record.{Record}
use Rattle.apply.specs.Moved.{vector_x, vector_y}
use Rattle.apply.specs.Blocks.{dc_of}
use Rattle.state.specs.State.{State}

pub data Plane : Type 0 where
  Luma : Plane
  Cb : Plane
  Cr : Plane

abbrev pub reference_of : Plane → State → List ℕ
reference_of Luma s = s.ry
reference_of Cb s = s.rcb
reference_of Cr s = s.rcr

abbrev pub picture_of : Plane → State → List ℕ
picture_of Luma s = s.y
picture_of Cb s = s.cb
picture_of Cr s = s.cr

-- a macroblock has 16 / u samples each way: places, spans and vectors are divided by u, toward zero
abbrev pub unit_of : Plane → ℕ
unit_of Luma = 1
unit_of Cb = 2
unit_of Cr = 2

abbrev pub width_of : Plane → State → ℕ
width_of plane s = 16 / unit_of plane * s.cols

abbrev pub height_of : Plane → State → ℕ
height_of plane s = 16 / unit_of plane * s.rows

-- the sample at column x of row y
unfoldable pub picture_at : Plane → State → ℕ → ℕ → ℕ
picture_at plane s x y = get_or (picture_of plane s) (y * width_of plane s + x) 0

unfoldable pub reference_at : Plane → State → ℕ → ℕ → ℕ
reference_at plane s x y = get_or (reference_of plane s) (y * width_of plane s + x) 0

-- ---- compensation

-- where the vector of partition i leads to from column x, and from row y, in sixths
abbrev pub across_from : Plane → Record → ℕ → ℕ → ℤ
across_from plane r i x = sixths (pos x) (toward_zero (vector_x r.vectors i) (unit_of plane))

abbrev pub down_from : Plane → Record → ℕ → ℕ → ℤ
down_from plane r i y = sixths (pos y) (toward_zero (vector_y r.vectors i) (unit_of plane))

-- the reference's sample there
unfoldable pub compensated_at : Plane → State → Record → ℕ → ℕ → ℕ → ℕ
compensated_at plane s r i x y = sample_at (reference_of plane s) (width_of plane s) (height_of plane s) (across_from plane r i x) (down_from plane r i y)

-- a number made of its four taps s00, s10, s01, s11
unfoldable pub of_taps : (ℕ → ℕ → ℕ → ℕ → ℕ) → Plane → State → Record → ℕ → ℕ → ℕ → ℕ
of_taps number plane s r i x y =
    let a = floor_z (across_from plane r i x) 6 in
    let b = floor_z (down_from plane r i y) 6 in
    let t = tap (reference_of plane s) (width_of plane s) (height_of plane s) in
    number (t a b) (t (a +ℤ pos 1) b) (t a (b +ℤ pos 1)) (t (a +ℤ pos 1) (b +ℤ pos 1))

-- ---- the residual at column a of row b of the macroblock

-- luma: quadrants by rows, four blocks each by rows
unfoldable pub quadrant_at : ℕ → ℕ → ℕ
quadrant_at a b = 2 * (b / 8) + a / 8

unfoldable pub luma_block_at : ℕ → ℕ → ℕ
luma_block_at a b = 4 * quadrant_at a b + (2 * (b / 4 % 2) + a / 4 % 2)

-- chroma: four blocks by rows
unfoldable pub chroma_block_at : ℕ → ℕ → ℕ
chroma_block_at a b = 2 * (b / 4) + a / 4

-- whether the block there has a residual
unfoldable pub coded_at : Plane → Record → ℕ → ℕ → Bool
coded_at Luma r a b = quadrant_coded r.head.pattern (quadrant_at a b)
coded_at Cb r a b = ltb 0 (class_of r.head.pattern)
coded_at Cr r a b = ltb 0 (class_of r.head.pattern)

unfoldable pub luma_residual_at : Record → ℕ → ℕ → ℤ
luma_residual_at r a b = residual (dequant_coeff r.head.quantiser) (pos 0) (placed r.levels (item_place (luma_block_at a b))) (b % 4) (a % 4)

-- Cb 0, Cr 1
unfoldable pub chroma_residual_at : ℕ → Record → ℕ → ℕ → ℤ
chroma_residual_at k r a b =
    let n = chroma_block_at a b in
    residual (chroma_coeff r.head.quantiser) (dc_of r.head r.levels k n) (placed r.levels (item_place (18 + 4 * k + n))) (b % 4) (a % 4)

abbrev pub residual_at : Plane → Record → ℕ → ℕ → ℤ
residual_at Luma r a b = luma_residual_at r a b
residual_at Cb r a b = chroma_residual_at 0 r a b
residual_at Cr r a b = chroma_residual_at 1 r a b

-- a sample there with its residual, held in 0 to 255; where there is none, the sample alone
unfoldable pub with_residual_at : Plane → Record → ℕ → ℕ → ℕ → ℕ
with_residual_at plane r a b v = when coded_at plane r a b then clip1_z (pos v +ℤ residual_at plane r a b) else v
