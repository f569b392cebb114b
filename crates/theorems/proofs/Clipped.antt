-- THE PREMISE OF UNIQUE READING IS NEEDED: two runs from one start that clip a component have one transcript and consumed different bits.
-- Assumes nothing.
use mathlib.Core.Path.{◌≡◌, refl, ap, ◌∙◌, sym}
use mathlib.Core.Bool.{Bool, true, false, false≢true}
use mathlib.Core.List.{List, [], ◌∷◌}
use Prim.Native.Nat.{ℕ}
use lib.IntN.{pos}
use lib.ListN.{length, replicate, get_or}
use Rattle.ints.specs.Z.{when◌then◌else◌, floor_z, sat_z, over_z, clamp_z, min_z, max_z, median_z}
use Rattle.bits.specs.Bits.{bit_list}
use Rattle.bits.specs.Code.{code_from, code}
use Rattle.bits.specs.Signed.{signed_of, signed_code}
use Rattle.number.specs.Number.{groups, number, low_then, read_number}
use Rattle.number.specs.SignedNumber.{sent, signed_number}
use Rattle.levels.specs.Pattern.{patterns, pattern, quadrant_coded}
use Rattle.vectors.specs.Modes.{partition_width, partition_height, num_motion_vectors, offset_x, offset_y}
use Rattle.vectors.specs.Precision.{precision}
use Rattle.vectors.specs.Predict.{cell_at, near_at, left_of, above_of, above_left_of, median_of, combined, predicted, held_in, predictor}
use Rattle.vectors.specs.Units.{round_to_sixths, convert_predictor, summed, scaled, stored_part, clipped_part}
use Rattle.refusal.specs.Until.{until_end}
use Rattle.record.specs.Record.{no_vectors}
use Rattle.levels.specs.Items.{no_levels, item_coded, read_lists, write_lists, read_items}
use Rattle.record.specs.Write.{signed_numbers, item_bytes, items_bytes, rest_bytes, record_bytes}
use Rattle.state.specs.Questions.{grid_right, planes_right, state_right, reference_there, call_right, ask_start, ask_quantiser, ask_place, place_in, ask_rest, ask_call}
use Rattle.run.specs.Calls.{call_in, calls_in, calls}
use Rattle.reading.specs.Read.{predictor_at, moved, read_vectors, quantiser_in, read_quantiser, record_of, at_first, read_residual, read_coded, read_macroblock}
use Rattle.state.specs.State.{State}
use Rattle.macroblock.specs.Decode.{outcome_of, decoded}
use Rattle.run.specs.Run.{Ran, ended, with_call, ran_from, ran, ran_list, transcript_of, consumed}

-- one macroblock, full pel, quantiser 5
unfoldable pub one : State
one = record {
  cols = 1;
  rows = 1;
  halfpel = false;
  thirdpel = false;
  delta = false;
  quantiser = 5;
  ry = replicate 256 128;
  rcb = replicate 64 128;
  rcr = replicate 64 128;
  y = replicate 256 0;
  cb = replicate 64 0;
  cr = replicate 64 0;
  mv = replicate 32 (pos 0);
  marks = replicate 16 0;
}

-- 1 vertical 0, horizontal +400,000,000 or +400,000,001, 1 pattern 0: six times either leaves i32, and both are held at its limit
unfoldable pub less : List ℕ
less = 138 ∷ 168 ∷ 138 ∷ 160 ∷ 8 ∷ 0 ∷ 0 ∷ 24 ∷ []

unfoldable pub more : List ℕ
more = 138 ∷ 168 ∷ 138 ∷ 160 ∷ 8 ∷ 0 ∷ 0 ∷ 152 ∷ []

-- the run of the call 0, 0, mode 1
unfoldable pub clipped_run : List ℕ → Ran
clipped_run bits = ran_list one (0 ∷ 0 ∷ 1 ∷ []) bits 0 (replicate 2089 0)

-- both: the call is accepted, and its record is 0000010001feffffff0f000005
unfoldable clipped_bytes : List ℕ
clipped_bytes = 0 ∷ 0 ∷ 1 ∷ 0 ∷ 1 ∷ 254 ∷ 255 ∷ 255 ∷ 255 ∷ 15 ∷ 0 ∷ 0 ∷ 5 ∷ []

-- the transcript, the number of consumed bits, and bit 56 of them
record Result (bits : List ℕ) (last : Bool) : Type 0 where
  bytes : transcript_of (clipped_run bits) ≡ clipped_bytes
  taken : length (consumed bits 0 (clipped_run bits)) ≡ 61
  last_bit : get_or (consumed bits 0 (clipped_run bits)) 56 false ≡ last

result-less : Result less false
unfolding clipped_bytes one less more clipped_run ran_list ran ran_from ended with_call transcript_of decoded outcome_of ask_call ask_start ask_quantiser ask_place place_in ask_rest grid_right planes_right state_right reference_there call_right calls calls_in call_in until_end when◌then◌else◌ floor_z sat_z over_z clamp_z min_z max_z median_z bit_list code_from code signed_of signed_code groups number low_then read_number sent signed_number patterns pattern quadrant_coded partition_width partition_height num_motion_vectors offset_x offset_y precision cell_at near_at left_of above_of above_left_of median_of combined predicted held_in predictor round_to_sixths convert_predictor summed scaled stored_part clipped_part no_vectors no_levels item_coded read_lists write_lists read_items signed_numbers item_bytes items_bytes rest_bytes record_bytes predictor_at moved read_vectors quantiser_in read_quantiser record_of at_first read_residual read_coded read_macroblock consumed
result-less = record { bytes = refl; taken = refl; last_bit = refl }

result-more : Result more true
unfolding clipped_bytes one less more clipped_run ran_list ran ran_from ended with_call transcript_of decoded outcome_of ask_call ask_start ask_quantiser ask_place place_in ask_rest grid_right planes_right state_right reference_there call_right calls calls_in call_in until_end when◌then◌else◌ floor_z sat_z over_z clamp_z min_z max_z median_z bit_list code_from code signed_of signed_code groups number low_then read_number sent signed_number patterns pattern quadrant_coded partition_width partition_height num_motion_vectors offset_x offset_y precision cell_at near_at left_of above_of above_left_of median_of combined predicted held_in predictor round_to_sixths convert_predictor summed scaled stored_part clipped_part no_vectors no_levels item_coded read_lists write_lists read_items signed_numbers item_bytes items_bytes rest_bytes record_bytes predictor_at moved read_vectors quantiser_in read_quantiser record_of at_first read_residual read_coded read_macroblock consumed
result-more = record { bytes = refl; taken = refl; last_bit = refl }

pub clipped_runs : (transcript_of (clipped_run less) ≡ transcript_of (clipped_run more)) × (consumed less 0 (clipped_run less) ≡ consumed more 0 (clipped_run more) → ⊥)
clipped_runs = (result-less.bytes ∙ sym result-more.bytes, λ e. false≢true (sym result-less.last_bit ∙ ap (λ (l : List Bool). get_or l 56 false) e ∙ result-more.last_bit))
