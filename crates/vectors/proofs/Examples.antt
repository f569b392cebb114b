-- Worked examples, computed: predictors in units (two of document 01's), components that were moved, and predictions.
-- Assumes nothing.
use mathlib.Core.Path.{◌≡◌, refl}
use mathlib.Core.Bool.{true, false}
use lib.IntN.{pos, negsuc}
use Rattle.ints.specs.Z.{when◌then◌else◌, clamp_z, sat_z, over_z, min_z, max_z, median_z, floor_z}
use Rattle.vectors.specs.declared.svq3_mb.Svq3MvPrecision.TheVariants.{Fullpel, Halfpel, Thirdpel}
use Rattle.vectors.specs.Predict.{vector, median_of, combined, held_in}
use Rattle.vectors.specs.Units.{round_to_sixths, convert_predictor, summed, scaled, stored_part, clipped_part}
use Rattle.std.specs.Prelude.{Some, None}

-- in full-pel -3 → 0, -4 → -1 and 3 → 1; in half-pel -2 → -1; in third-pel -1 → 0
pub converted :
    (convert_predictor Fullpel (negsuc 2) ≡ pos 0) × (convert_predictor Fullpel (negsuc 3) ≡ negsuc 0)
    × (convert_predictor Fullpel (pos 3) ≡ pos 1) × (convert_predictor Halfpel (negsuc 1) ≡ negsuc 0) × (convert_predictor Thirdpel (negsuc 0) ≡ pos 0)
unfolding convert_predictor round_to_sixths when◌then◌else◌ floor_z
converted = (refl, refl, refl, refl, refl)

-- one full pel is 6 sixths; the least difference leaves i32 with the product, and the greatest with the sum
pub moved :
    (stored_part Fullpel (pos 0) (pos 1) ≡ pos 6) × (clipped_part Fullpel (pos 0) (pos 1) ≡ false)
    × (stored_part Halfpel (pos 0) (negsuc 2147483646) ≡ negsuc 2147483647) × (clipped_part Halfpel (pos 0) (negsuc 2147483646) ≡ true)
    × (stored_part Thirdpel (pos 4) (pos 2147483647) ≡ pos 2147483647) × (clipped_part Thirdpel (pos 4) (pos 2147483647) ≡ true)
unfolding stored_part clipped_part scaled summed convert_predictor round_to_sixths sat_z over_z clamp_z when◌then◌else◌ floor_z
moved = (refl, refl, refl, refl, refl, refl)

-- one neighbour is taken as it is, two go through the median with 0; and what points out of a picture of one macroblock is held
pub predicted-from :
    (combined None (Some (vector (pos 7) (negsuc 4))) None ≡ vector (pos 7) (negsuc 4))
    × (combined (Some (vector (pos 7) (pos 2))) None (Some (vector (pos 9) (negsuc 4))) ≡ vector (pos 7) (pos 0))
    × (held_in 16 8 8 (pos 1) ≡ pos 0) × (held_in 16 8 8 (negsuc 99) ≡ negsuc 47)
unfolding combined median_of median_z min_z max_z held_in clamp_z when◌then◌else◌
predicted-from = (refl, refl, refl, refl)
