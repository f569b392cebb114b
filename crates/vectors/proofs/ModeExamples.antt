-- Worked examples, computed: the precision bits of document 01, and the partitions of three modes.
-- Assumes nothing.
use mathlib.Core.Path.{◌≡◌, refl}
use mathlib.Core.Bool.{true, false}
use mathlib.Core.List.{[], ◌∷◌}
use Rattle.refusal.specs.Got.{got, refused}
use Rattle.refusal.specs.declared.Refusal.TheVariants.{Truncated}
use Rattle.vectors.specs.Modes.{partition_width, partition_height, offset_x, offset_y}
use Rattle.vectors.specs.Precision.{both_flags, one_flag, precision}
use Rattle.vectors.specs.declared.svq3_mb.Svq3MvPrecision.TheVariants.{Fullpel, Halfpel, Thirdpel}

-- the flags are half, third
pub selectors :
    (precision true true (false ∷ []) ≡ got Thirdpel 1)
    × (precision true true (true ∷ false ∷ []) ≡ got Halfpel 2)
    × (precision true true (true ∷ true ∷ []) ≡ got Fullpel 2)
    × (precision true true (true ∷ []) ≡ refused Truncated)
    × (precision true false (true ∷ []) ≡ got Halfpel 1)
    × (precision true false (false ∷ []) ≡ got Fullpel 1)
    × (precision false true (true ∷ []) ≡ got Thirdpel 1)
    × (precision false true (false ∷ []) ≡ got Fullpel 1)
    × (precision false true [] ≡ refused Truncated)
    × (precision false false [] ≡ got Fullpel 0)
unfolding precision both_flags one_flag
selectors = (refl, refl, refl, refl, refl, refl, refl, refl, refl, refl)

-- the second 8×16 partition, the second 16×8, the sixth 4×8
pub places :
    (offset_x 2 1 ≡ 8) × (offset_y 2 1 ≡ 0)
    × (offset_x 3 1 ≡ 0) × (offset_y 3 1 ≡ 8)
    × (offset_x 5 5 ≡ 4) × (offset_y 5 5 ≡ 8)
unfolding offset_x offset_y partition_width partition_height
places = (refl, refl, refl, refl, refl, refl)
