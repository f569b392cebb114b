-- The transcript check at numbers, by computation.
-- Assumes nothing.
use mathlib.Core.Path.{◌≡◌, refl}
use mathlib.Core.List.{List, [], ◌∷◌, ◌++◌}
use Prim.Native.Nat.{ℕ}
use Rattle.ints.specs.Z.{when◌then◌else◌}
use Rattle.refusal.specs.declared.Refusal.TheVariants.{GridSize, NumberForm, FieldRange}
use Rattle.number.specs.Number.{low_then, read_number}
use Rattle.number.specs.SignedNumber.{received, read_signed}
use Rattle.levels.specs.Pattern.{quadrant_coded}
use Rattle.vectors.specs.Modes.{num_motion_vectors}
use Rattle.record.specs.Record.{skip_record, no_vectors}
use Rattle.levels.specs.Items.{no_levels, item_coded, read_lists}
use Rattle.record.specs.Parse.{field, read_signeds, parse_items, parse_residual, parse_motion, parse_record}
use Rattle.refusal.specs.Until.{until_end}
use Rattle.state.specs.Questions.{grid_right}
use Rattle.transcript.specs.Records.{records_in, records}
use Rattle.transcript.specs.Check.{checked}
use Rattle.std.specs.Prelude.{Ok, Err}

-- document 01's record, and a skip behind it
unfoldable pub one : List ℕ
one = 0 ∷ 0 ∷ 1 ∷ 0 ∷ 0 ∷ 12 ∷ 0 ∷ 0 ∷ 5 ∷ []

pub accepted : (checked 1 1 [] ≡ Ok 0) × (checked 1 1 one ≡ Ok 1) × (checked 1 1 (one ++ 0 ∷ 0 ∷ 0 ∷ []) ≡ Ok 2)
unfolding one checked records records_in until_end grid_right no_vectors no_levels skip_record when◌then◌else◌ low_then read_number received read_signed quadrant_coded num_motion_vectors item_coded read_lists field read_signeds parse_items parse_residual parse_motion parse_record
accepted = (refl, refl, refl)

-- a grid of no column, whatever the bytes; bytes that end inside a record, also behind a whole one; a column that the grid does not have: 15, but only once row and mode are read; a clipped count of 3
pub refusals : (checked 0 1 (255 ∷ []) ≡ Err GridSize)
    × (checked 1 1 (0 ∷ 0 ∷ []) ≡ Err NumberForm)
    × (checked 1 1 (one ++ 0 ∷ []) ≡ Err NumberForm)
    × (checked 1 1 (1 ∷ 0 ∷ 0 ∷ []) ≡ Err FieldRange)
    × (checked 1 1 (1 ∷ 0 ∷ []) ≡ Err NumberForm)
    × (checked 1 1 (0 ∷ 0 ∷ 1 ∷ 0 ∷ 3 ∷ []) ≡ Err FieldRange)
unfolding one checked records records_in until_end grid_right no_vectors no_levels skip_record when◌then◌else◌ low_then read_number received read_signed quadrant_coded num_motion_vectors item_coded read_lists field read_signeds parse_items parse_residual parse_motion parse_record
refusals = (refl, refl, refl, refl, refl, refl)
