-- Records as bytes, computed: document 01's example both ways, a skip, a record with chroma levels, and bytes that are no record.
-- Assumes nothing.
use mathlib.Core.Path.{◌≡◌, refl}
use mathlib.Core.List.{List, [], ◌∷◌, ◌++◌}
use Prim.Native.Nat.{ℕ}
use lib.IntN.{pos, negsuc}
use lib.ListN.{replicate}
use lib.Seq.{sets}
use Rattle.ints.specs.Z.{when◌then◌else◌}
use Rattle.refusal.specs.Got.{got, refused}
use Rattle.refusal.specs.declared.Refusal.TheVariants.{NumberForm, FieldRange}
use Rattle.number.specs.Number.{groups, number, low_then, read_number}
use Rattle.number.specs.SignedNumber.{sent, received, signed_number, read_signed}
use Rattle.levels.specs.Pattern.{quadrant_coded}
use Rattle.vectors.specs.Modes.{num_motion_vectors}
use Rattle.record.specs.Record.{Record, skip_record, no_vectors}
use Rattle.levels.specs.Items.{no_levels, item_coded, item_book, item_start, item_count, item_place, item_levels, read_lists, write_lists}
use Rattle.record.specs.Write.{signed_numbers, item_bytes, items_bytes, rest_bytes, record_bytes}
use Rattle.record.specs.Parse.{field, read_signeds, parse_item, parse_items, parse_residual, parse_motion, parse_record}

-- column 0, row 0, mode 1, precision 0, clipped 0, vector (+6, 0), pattern 0, quantiser 5
unfoldable pub printed : Record
printed = record {
  head = record { column = 0; row = 0; mode = 1; precision = 0; clipped = 0; pattern = 0; quantiser = 5 };
  vectors = sets no_vectors 0 (pos 6 ∷ pos 0 ∷ []);
  levels = no_levels;
}

unfoldable pub printed_bytes : List ℕ
printed_bytes = 0 ∷ 0 ∷ 1 ∷ 0 ∷ 0 ∷ 12 ∷ 0 ∷ 0 ∷ 5 ∷ []

pub written : record_bytes printed ≡ printed_bytes
unfolding no_vectors no_levels printed printed_bytes when◌then◌else◌ groups number sent signed_number quadrant_coded num_motion_vectors item_coded item_book item_start item_count item_place item_levels write_lists signed_numbers item_bytes items_bytes rest_bytes record_bytes
written = refl

-- what follows a record is left
pub read_back : parse_record 1 1 (printed_bytes ++ 7 ∷ []) ≡ got printed 9
unfolding no_vectors no_levels printed printed_bytes when◌then◌else◌ low_then read_number received read_signed quadrant_coded num_motion_vectors item_coded item_book item_start item_count item_place read_lists field read_signeds parse_item parse_items parse_residual parse_motion parse_record
read_back = refl

-- a skip at column 130 is four bytes, of which the column is two
pub skipped : (record_bytes (skip_record 130 3) ≡ 130 ∷ 1 ∷ 3 ∷ 0 ∷ []) × (parse_record 200 4 (130 ∷ 1 ∷ 3 ∷ 0 ∷ []) ≡ got (skip_record 130 3) 4)
unfolding skip_record when◌then◌else◌ groups number low_then read_number record_bytes field parse_record
skipped = (refl, refl)

-- pattern 32: both chroma DC lists, then the AC lists from place 1 on. A DC level -2 of Cr, and the level 3 at place 1 of the first Cb block
unfoldable pub chroma : Record
chroma = record {
  head = record { column = 1; row = 0; mode = 1; precision = 2; clipped = 2; pattern = 32; quantiser = 31 };
  vectors = no_vectors;
  levels = sets (sets no_levels 260 (negsuc 1 ∷ [])) 265 (pos 3 ∷ []);
}

unfoldable pub chroma_bytes : List ℕ
chroma_bytes = (1 ∷ 0 ∷ 1 ∷ 2 ∷ 2 ∷ 0 ∷ 0 ∷ 32 ∷ 31 ∷ []) ++ (0 ∷ 0 ∷ 0 ∷ 0 ∷ 3 ∷ 0 ∷ 0 ∷ 0 ∷ []) ++ (6 ∷ replicate 119 0)

pub chroma-both-ways : (record_bytes chroma ≡ chroma_bytes) × (parse_record 2 1 chroma_bytes ≡ got chroma 137)
unfolding no_vectors no_levels chroma chroma_bytes when◌then◌else◌ groups number sent signed_number quadrant_coded num_motion_vectors item_coded item_book item_start item_count item_place item_levels write_lists signed_numbers item_bytes items_bytes rest_bytes record_bytes low_then read_number received read_signed read_lists field read_signeds parse_item parse_items parse_residual parse_motion parse_record
chroma-both-ways = (refl, refl)

-- column, row and mode are read before one is judged: 14 where the mode is missing, 15 where it is there
pub judged-last : (parse_record 2 2 (7 ∷ 0 ∷ []) ≡ refused NumberForm) × (parse_record 2 2 (0 ∷ 7 ∷ 128 ∷ []) ≡ refused NumberForm) × (parse_record 2 2 (7 ∷ 0 ∷ 0 ∷ []) ≡ refused FieldRange)
unfolding when◌then◌else◌ low_then read_number field parse_record
judged-last = (refl, refl, refl)

-- precision 3, clipped 3 of one vector, pattern 48, quantiser 32: each is refused as it is read
pub out_of_range : (parse_record 1 1 (0 ∷ 0 ∷ 1 ∷ 3 ∷ []) ≡ refused FieldRange) × (parse_record 1 1 (0 ∷ 0 ∷ 1 ∷ 2 ∷ 3 ∷ []) ≡ refused FieldRange)
    × (parse_record 1 1 (0 ∷ 0 ∷ 1 ∷ 2 ∷ 2 ∷ 0 ∷ 0 ∷ 48 ∷ []) ≡ refused FieldRange) × (parse_record 1 1 (0 ∷ 0 ∷ 1 ∷ 2 ∷ 2 ∷ 0 ∷ 0 ∷ 47 ∷ 32 ∷ []) ≡ refused FieldRange)
unfolding no_vectors when◌then◌else◌ low_then read_number received read_signed num_motion_vectors field read_signeds parse_residual parse_motion parse_record
out_of_range = (refl, refl, refl, refl)
