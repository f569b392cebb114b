-- One macroblock read from the bits: its record, and how many bits it took.
-- Assumes nothing.
use Rattle.std.specs.Prelude.{Bool, ◌&&◌, not, List, ℕ, zero, suc, ◌+◌, ◌*◌, ◌/◌, eqb, ℤ, pos, nat_abs, ◌+ℤ◌, set}
use Rattle.std.specs.Int.Signed.{lt_z}
use Rattle.ints.specs.Z.{when◌then◌else◌}
use Rattle.refusal.specs.Got.{Got, got, refused, and_then, map_got}
use Rattle.refusal.specs.declared.Refusal.TheVariants.{InvalidQuantiser}
use Rattle.bits.specs.Code.{bit_value}
use Rattle.bits.specs.Signed.{signed_code}
use Rattle.levels.specs.Pattern.{pattern}
use Rattle.vectors.specs.Modes.{partition_width, partition_height, num_motion_vectors, offset_x, offset_y}
use Rattle.vectors.specs.Precision.{precision, precision_number}
use Rattle.picture.specs.Field.{Field}
use Rattle.vectors.specs.Predict.{predictor}
use Rattle.vectors.specs.Units.{stored_part, clipped_part}
use Rattle.vectors.specs.Stored.{stored_field}
use Rattle.vectors.specs.declared.svq3_mb.Svq3MvPrecision.{Svq3MvPrecision}
use Rattle.vectors.specs.declared.svq3_frame.Vector.{Vector}
use Rattle.state.specs.declared.Call.{Call}
use Rattle.record.specs.Record.{Record, no_vectors, skip_record}
use Rattle.levels.specs.Items.{no_levels, read_items}
use Rattle.state.specs.State.{Context}

-- ---- the vectors, partition by partition
-- the first cell of partition i in the picture, and its size in cells
abbrev pub cell_x : Call → ℕ → ℕ
cell_x call i = 4 * call.column + offset_x call.mode i / 4

abbrev pub cell_y : Call → ℕ → ℕ
cell_y call i = 4 * call.row + offset_y call.mode i / 4

abbrev pub cells_wide : Call → ℕ
cells_wide call = partition_width call.mode / 4

abbrev pub cells_high : Call → ℕ
cells_high call = partition_height call.mode / 4

-- its predictor
unfoldable pub predictor_at : Call → Field → ℕ → Vector
predictor_at call f i = predictor f (cell_x call i) (cell_y call i) (cells_wide call) (cells_high call)

-- the field with its vector stored, marked 1
unfoldable pub stored_at : Call → Field → ℕ → ℤ → ℤ → Field
stored_at call f i vx vy = stored_field f (cell_x call i) (cell_y call i) (cells_wide call) (cells_high call) vx vy

-- what was read so far: the field as the partitions left it, their vectors, how many components were clipped
pub record Moving : Type 0 where
  pub field : Field
  pub vectors : List ℤ
  pub clipped : ℕ

-- partition i: each component of its predictor moved by its difference, and stored before the next is predicted
unfoldable pub moved : Call → Svq3MvPrecision → ℕ → Moving → ℤ → ℤ → Moving
moved call p i m dy dx =
    let from = predictor_at call m.field i in
    let vx = stored_part p from.x.0 dx in
    let vy = stored_part p from.y.0 dy in
    record {
      field = stored_at call m.field i vx vy;
      vectors = set (set m.vectors (2 * i) vx) (2 * i + 1) vy;
      clipped = m.clipped + bit_value (clipped_part p from.x.0 dx) + bit_value (clipped_part p from.y.0 dy);
    }

-- n partitions from the i-th on; the vertical difference is read first
unfoldable pub read_vectors : Call → Svq3MvPrecision → ℕ → ℕ → Moving → List Bool → Got Moving
read_vectors call p zero i m s = got m 0
read_vectors call p (suc n) i m s =
    and_then (signed_code s) s (λ dy s₁.
    and_then (signed_code s₁) s₁ (λ dx s₂.
    read_vectors call p n (suc i) (moved call p i m dy dx) s₂))

-- ---- the quantiser
-- 0 to 31, else refused with its exact value
unfoldable pub quantiser_in : ℤ → Got ℕ
quantiser_in q = when not (lt_z q (pos 0)) && lt_z q (pos 32) then got (nat_abs q) 0 else refused (InvalidQuantiser q)

-- a delta only if the pattern is not 0 and delta-enable is on
unfoldable pub read_quantiser : Bool → ℕ → ℕ → List Bool → Got ℕ
read_quantiser delta q pattern s =
    when not (eqb pattern 0) && delta then and_then (signed_code s) s (λ d rest. quantiser_in (pos q +ℤ d)) else got q 0

-- ---- the macroblock
unfoldable pub record_of : Call → Svq3MvPrecision → Moving → ℕ → ℕ → List ℤ → Record
record_of call p m pattern q levels =
    record {
      head = record { column = call.column; row = call.row; mode = call.mode; precision = precision_number p; clipped = m.clipped; pattern = pattern; quantiser = q };
      vectors = m.vectors;
      levels = levels;
    }

unfoldable pub at_first : Field → Moving
at_first f = record { field = f; vectors = no_vectors; clipped = 0 }

-- pattern, quantiser, levels, behind the precision p and what was read of the vectors
unfoldable pub read_residual : Bool → ℕ → Call → Svq3MvPrecision → Moving → List Bool → Got Record
read_residual delta quantiser call p m s =
    and_then (pattern s) s (λ v s₁.
    and_then (read_quantiser delta quantiser v s₁) s₁ (λ q s₂.
    map_got (record_of call p m v q) (read_items 26 0 v no_levels s₂)))

-- precision, vectors, and what follows
unfoldable pub read_coded : Context → Call → List Bool → Got Record
read_coded c call s =
    and_then (precision c.halfpel c.thirdpel s) s (λ p s₁.
    and_then (read_vectors call p (num_motion_vectors call.mode) 0 (at_first c.field) s₁) s₁ (λ m s₂.
    read_residual c.delta c.quantiser call p m s₂))

-- a skip reads nothing
unfoldable pub read_macroblock : Context → Call → List Bool → Got Record
read_macroblock c call s = when eqb call.mode 0 then got (skip_record call.column call.row) 0 else read_coded c call s
