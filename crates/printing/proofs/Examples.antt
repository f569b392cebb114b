-- What is printed of some inputs, by computation.
-- Assumes nothing.
use mathlib.Core.Path.{◌≡◌, refl}
use mathlib.Core.List.{List, [], ◌∷◌, ◌++◌}
use Prim.Native.Nat.{ℕ}
use Rattle.ints.specs.Z.{when◌then◌else◌, floor_z, sat_z, over_z, clamp_z, min_z, max_z, median_z}
use Rattle.bits.specs.Bits.{bit_list}
use Rattle.bits.specs.Code.{code_from, code}
use Rattle.bits.specs.Signed.{signed_of, signed_code}
use Rattle.number.specs.Number.{groups, number, low_then, read_number}
use Rattle.number.specs.SignedNumber.{sent, received, signed_number, read_signed}
use Rattle.levels.specs.Pattern.{patterns, pattern, quadrant_coded}
use Rattle.vectors.specs.Modes.{partition_width, partition_height, num_motion_vectors, offset_x, offset_y}
use Rattle.vectors.specs.Precision.{precision}
use Rattle.vectors.specs.Predict.{cell_at, near_at, left_of, above_of, above_left_of, median_of, combined, predicted, held_in, predictor}
use Rattle.vectors.specs.Units.{round_to_sixths, convert_predictor, summed, scaled, stored_part, clipped_part}
use Rattle.refusal.specs.Until.{until_end}
use Rattle.record.specs.Record.{no_vectors, skip_record}
use Rattle.levels.specs.Items.{no_levels, item_coded, read_lists, write_lists, read_items}
use Rattle.record.specs.Write.{signed_numbers, item_bytes, items_bytes, rest_bytes, record_bytes}
use Rattle.record.specs.Parse.{field, read_signeds, parse_items, parse_residual, parse_motion, parse_record}
use Rattle.state.specs.Questions.{grid_right, planes_right, state_right, reference_there, call_right, place_in, ask_start, ask_quantiser, ask_place, ask_rest, ask_call, ask_run}
use Rattle.run.specs.Calls.{call_in}
use Rattle.transcript.specs.Records.{records_in, records}
use Rattle.reading.specs.Read.{predictor_at, moved, read_vectors, quantiser_in, read_quantiser, record_of, at_first, read_residual, read_coded, read_macroblock}
use Rattle.macroblock.specs.Decode.{outcome_of, decoded}
use Rattle.run.specs.Run.{ended, with_call, ran_from, ran, transcript_of}
use Rattle.printing.specs.Text.{hex_digit, hex_bytes, digits, decimal, line, hex_line, count_line, bits_line, refused_line}
use Rattle.printing.specs.Header.{ranged, header_in, calls_from}
use Rattle.printing.specs.Print.{start, room, record_lines, printed_run, printed}

-- `bits 0`, `refused 5`, `refused 14`, `refused 15`
unfoldable pub bits0 : List ℕ
bits0 = 98 ∷ 105 ∷ 116 ∷ 115 ∷ 32 ∷ 48 ∷ 10 ∷ []

unfoldable pub refused5 : List ℕ
refused5 = 114 ∷ 101 ∷ 102 ∷ 117 ∷ 115 ∷ 101 ∷ 100 ∷ 32 ∷ 53 ∷ 10 ∷ []

unfoldable pub refused14 : List ℕ
refused14 = 114 ∷ 101 ∷ 102 ∷ 117 ∷ 115 ∷ 101 ∷ 100 ∷ 32 ∷ 49 ∷ 52 ∷ 10 ∷ []

unfoldable pub refused15 : List ℕ
refused15 = 114 ∷ 101 ∷ 102 ∷ 117 ∷ 115 ∷ 101 ∷ 100 ∷ 32 ∷ 49 ∷ 53 ∷ 10 ∷ []

-- in the header: no input; 0 columns; a call count of 17, also where no list follows; a number that is not in its shortest form; 14 in the list: it ends inside a call
pub refused-alone : (printed [] ≡ refused14) × (printed (0 ∷ []) ≡ refused15) × (printed (1 ∷ 1 ∷ 0 ∷ 0 ∷ 5 ∷ 17 ∷ []) ≡ refused15)
    × (printed (129 ∷ 0 ∷ []) ≡ refused14) × (printed (1 ∷ 1 ∷ 0 ∷ 0 ∷ 5 ∷ 1 ∷ 0 ∷ 0 ∷ []) ≡ refused14)
unfolding refused14 refused15 printed header_in ranged read_number low_then when◌then◌else◌ calls_from call_in refused_line count_line line decimal digits
refused-alone = (refl, refl, refl, refl, refl)

-- no call; a call outside the grid
pub no_record : (printed (1 ∷ 1 ∷ 0 ∷ 0 ∷ 5 ∷ 0 ∷ []) ≡ bits0) × (printed (1 ∷ 1 ∷ 0 ∷ 0 ∷ 5 ∷ 1 ∷ 1 ∷ 0 ∷ 1 ∷ 152 ∷ []) ≡ bits0 ++ refused5)
unfolding bits0 refused5 printed header_in ranged read_number low_then when◌then◌else◌ calls_from call_in bits_line refused_line count_line line decimal digits start room record_lines printed_run ran ran_from ended with_call transcript_of decoded outcome_of ask_call ask_run ask_start ask_quantiser ask_place ask_rest grid_right planes_right state_right reference_there call_right place_in records records_in until_end
no_record = (refl, refl)

-- document 01's example: `00000100000c000005`, `bits 5`
unfoldable pub one : List ℕ
one = 48 ∷ 48 ∷ 48 ∷ 48 ∷ 48 ∷ 49 ∷ 48 ∷ 48 ∷ 48 ∷ 48 ∷ 48 ∷ 99 ∷ 48 ∷ 48 ∷ 48 ∷ 48 ∷ 48 ∷ 53 ∷ 10 ∷ 98 ∷ 105 ∷ 116 ∷ 115 ∷ 32 ∷ 53 ∷ 10 ∷ []

pub printed-one : printed (1 ∷ 1 ∷ 0 ∷ 0 ∷ 5 ∷ 1 ∷ 0 ∷ 0 ∷ 1 ∷ 152 ∷ []) ≡ one
unfolding one printed header_in ranged read_number low_then when◌then◌else◌ calls_from call_in hex_digit hex_bytes hex_line bits_line count_line line decimal digits start room record_lines printed_run ran ran_from ended with_call transcript_of decoded outcome_of ask_call ask_start ask_quantiser ask_place ask_rest grid_right planes_right state_right reference_there call_right place_in records records_in until_end floor_z sat_z over_z clamp_z min_z max_z median_z bit_list code_from code signed_of signed_code groups number sent received signed_number read_signed patterns pattern quadrant_coded partition_width partition_height num_motion_vectors offset_x offset_y precision cell_at near_at left_of above_of above_left_of median_of combined predicted held_in predictor round_to_sixths convert_predictor summed scaled stored_part clipped_part no_vectors no_levels skip_record item_coded read_lists write_lists read_items signed_numbers item_bytes items_bytes rest_bytes record_bytes field read_signeds parse_items parse_residual parse_motion parse_record predictor_at moved read_vectors quantiser_in read_quantiser record_of at_first read_residual read_coded read_macroblock
printed-one = refl
