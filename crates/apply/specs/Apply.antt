-- What a record does to the planes, the vectors and the marks.
-- Assumes nothing.
use Rattle.std.specs.Prelude.{List, ℕ, zero, suc, ◌*◌, eqb, ℤ, pos}
use Rattle.ints.specs.Z.{when◌then◌else◌}
use Rattle.picture.specs.Picture.{copied}
use Rattle.vectors.specs.Modes.{num_motion_vectors}
use Rattle.picture.specs.Field.{Field}
use Rattle.vectors.specs.Stored.{stored_field}
use Rattle.state.specs.declared.Call.{Call}
use Rattle.record.specs.Record.{Record}
use Rattle.reading.specs.Read.{stored_at}
use Rattle.reading.specs.Bits.{call_of}
use Rattle.apply.specs.Moved.{vector_x, vector_y, moved_up_to}
use Rattle.apply.specs.Blocks.{luma_up_to, chroma_added}

-- ---- vectors and marks: those of the first n partitions stored
unfoldable pub stored_up_to : ℕ → Call → List ℤ → Field → Field
stored_up_to zero call vs f = f
stored_up_to (suc n) call vs f = stored_at call (stored_up_to n call vs f) n (vector_x vs n) (vector_y vs n)

-- ---- the planes, the vectors and the marks afterwards: mode 0 copies the three blocks at its place, vectors zero, marks 1

unfoldable pub applied_luma : ℕ → ℕ → List ℕ → Record → List ℕ → List ℕ
applied_luma cols rows ref r pic =
    when eqb r.head.mode 0
    then copied pic (16 * cols) (16 * r.head.column) (16 * r.head.row) 16 16 ref
    else luma_up_to 16 cols r.head r.levels (moved_up_to (num_motion_vectors r.head.mode) 1 cols rows ref (call_of r) r.vectors pic)

unfoldable pub applied_chroma : ℕ → ℕ → ℕ → List ℕ → Record → List ℕ → List ℕ
applied_chroma plane cols rows ref r pic =
    when eqb r.head.mode 0
    then copied pic (8 * cols) (8 * r.head.column) (8 * r.head.row) 8 8 ref
    else chroma_added plane cols r.head r.levels (moved_up_to (num_motion_vectors r.head.mode) 2 cols rows ref (call_of r) r.vectors pic)

unfoldable pub applied_field : Record → Field → Field
applied_field r f =
    when eqb r.head.mode 0
    then stored_field f (4 * r.head.column) (4 * r.head.row) 4 4 (pos 0) (pos 0)
    else stored_up_to (num_motion_vectors r.head.mode) (call_of r) r.vectors f
