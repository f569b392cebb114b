-- Reading, computed: document 01's example, and the delta of a quantiser.
-- Assumes nothing.
use mathlib.Core.Path.{◌≡◌, refl}
use mathlib.Core.Bool.{true, false}
use mathlib.Core.List.{[], ◌∷◌}
use lib.IntN.{pos, negsuc}
use lib.ListN.{replicate}
use Rattle.ints.specs.Z.{when◌then◌else◌, floor_z, sat_z, over_z, clamp_z, min_z, max_z, median_z}
use Rattle.refusal.specs.Got.{got, refused}
use Rattle.refusal.specs.declared.Refusal.TheVariants.{InvalidQuantiser}
use Rattle.bits.specs.Bits.{bit_list}
use Rattle.bits.specs.Code.{code_from, code}
use Rattle.bits.specs.Signed.{signed_of, signed_code}
use Rattle.levels.specs.Pattern.{patterns, pattern, quadrant_coded}
use Rattle.vectors.specs.Modes.{partition_width, partition_height, num_motion_vectors, offset_x, offset_y}
use Rattle.vectors.specs.Precision.{precision}
use Rattle.vectors.specs.Predict.{cell_at, near_at, left_of, above_of, above_left_of, median_of, combined, predicted, held_in, predictor}
use Rattle.vectors.specs.Units.{round_to_sixths, convert_predictor, summed, scaled, stored_part, clipped_part}
use Rattle.record.specs.Record.{no_vectors}
use Rattle.levels.specs.Items.{no_levels, item_coded, read_lists, read_items}
use Rattle.record.proofs.Examples.{printed}
use Rattle.reading.specs.Read.{predictor_at, moved, read_vectors, quantiser_in, read_quantiser, record_of, at_first, read_residual, read_coded, read_macroblock}
use Rattle.reading.specs.InnerAnswers.{lent_context}

-- the byte 98: 1 vertical 0, 001 horizontal +1, 1 pattern 0; one macroblock, full pel, quantiser 5
pub read-printed :
    read_macroblock (lent_context 1 1 (replicate 32 (pos 0)) (replicate 16 0) (record { halfpel = false; thirdpel = false; delta = false }) 5) (record { column = 0; row = 0; mode = 1 }) (bit_list (152 ∷ [])) ≡ got printed 5
unfolding when◌then◌else◌ floor_z sat_z over_z clamp_z min_z max_z median_z bit_list code_from code signed_of signed_code patterns pattern quadrant_coded partition_width partition_height num_motion_vectors offset_x offset_y precision cell_at near_at left_of above_of above_left_of median_of combined predicted held_in predictor round_to_sixths convert_predictor summed scaled stored_part clipped_part no_vectors no_levels item_coded read_lists read_items printed predictor_at moved read_vectors quantiser_in read_quantiser record_of at_first read_residual read_coded read_macroblock
read-printed = refl

-- quantiser 31, delta +1: refused with 32; quantiser 0, delta -1: with -1; no delta with pattern 0 or without delta-enable
pub deltas :
    (read_quantiser true 31 1 (false ∷ false ∷ true ∷ []) ≡ refused (InvalidQuantiser (pos 32))) × (read_quantiser true 0 1 (false ∷ true ∷ true ∷ []) ≡ refused (InvalidQuantiser (negsuc 0)))
    × (read_quantiser true 30 1 (false ∷ false ∷ true ∷ []) ≡ got 31 3) × (read_quantiser true 30 0 (false ∷ false ∷ true ∷ []) ≡ got 30 0) × (read_quantiser false 30 1 (false ∷ false ∷ true ∷ []) ≡ got 30 0)
unfolding when◌then◌else◌ code_from code signed_of signed_code quantiser_in read_quantiser
deltas = (refl, refl, refl, refl, refl)
