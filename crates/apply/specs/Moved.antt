-- Compensation of a macroblock's partitions, in one plane.
-- Assumes nothing.
use Rattle.std.specs.Prelude.{Bool, true, false, List, ℕ, zero, suc, ◌+◌, ◌*◌, ◌/◌, ℤ, pos, get_or}
use Rattle.ints.specs.Z.{toward_zero}
use Rattle.picture.specs.Painted.{painted}
use Rattle.compensation.specs.Sample.{block_sample}
use Rattle.vectors.specs.Modes.{partition_width, partition_height, offset_x, offset_y}
use Rattle.state.specs.declared.Call.{Call}

-- the vector of partition i
abbrev pub vector_x : List ℤ → ℕ → ℤ
vector_x vs i = get_or vs (2 * i) (pos 0)

abbrev pub vector_y : List ℤ → ℕ → ℤ
vector_y vs i = get_or vs (2 * i + 1) (pos 0)

-- ---- compensation, in a plane that has 16 / u samples a macroblock each way: luma has u = 1; chroma, u = 2, halves place, span and vector toward zero
abbrev pub unit : Bool → ℕ
unit true = 2
unit false = 1

-- where partition i starts
unfoldable pub part_x : ℕ → Call → ℕ → ℕ
part_x u call i = (16 * call.column + offset_x call.mode i) / u

unfoldable pub part_y : ℕ → Call → ℕ → ℕ
part_y u call i = (16 * call.row + offset_y call.mode i) / u

-- its samples
unfoldable pub moved_block : ℕ → ℕ → ℕ → List ℕ → Call → List ℤ → ℕ → ℕ → ℕ → ℕ
moved_block u cols rows ref call vs i =
    block_sample ref (16 / u * cols) (16 / u * rows) (pos (part_x u call i)) (pos (part_y u call i)) (toward_zero (vector_x vs i) u) (toward_zero (vector_y vs i) u)

-- the plane with them
unfoldable pub moved_once : ℕ → ℕ → ℕ → List ℕ → Call → List ℤ → ℕ → List ℕ → List ℕ
moved_once u cols rows ref call vs i pic =
    painted (16 / u * cols) (part_x u call i) (part_y u call i) (partition_width call.mode / u) (partition_height call.mode / u) (moved_block u cols rows ref call vs i) pic

-- with those of the first n partitions
unfoldable pub moved_up_to : ℕ → ℕ → ℕ → ℕ → List ℕ → Call → List ℤ → List ℕ → List ℕ
moved_up_to zero u cols rows ref call vs pic = pic
moved_up_to (suc n) u cols rows ref call vs pic = moved_once u cols rows ref call vs n (moved_up_to n u cols rows ref call vs pic)
