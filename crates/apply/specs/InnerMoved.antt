-- A plane's length, and a partition as a block.
-- Assumes nothing.
use Rattle.std.specs.Prelude.{◌≡◌, Bool, List, ℕ, ◌*◌, ◌/◌, length}
use Rattle.std.specs.Borrow.{Bor, MutBor}
use Rattle.picture.specs.declared.Block.{Block}
use Rattle.vectors.specs.Modes.{partition_width, partition_height}
use Rattle.state.specs.declared.Call.{Call}
use Rattle.apply.specs.Moved.{unit, part_x, part_y}

-- the samples of such a plane
abbrev pub plane_length : ℕ → ℕ → ℕ → ℕ
plane_length u cols rows = 16 / u * (16 / u) * (cols * rows)

-- a plane that is lent and its reference have that length
abbrev pub PlanesSized : Bool → ℕ → ℕ → MutBor (List ℕ) → Bor (List ℕ) → Type 0
PlanesSized chroma cols rows pic reference = (length pic.now ≡ plane_length (unit chroma) cols rows) × (length reference.now ≡ plane_length (unit chroma) cols rows)

-- its block, as a struct: for inner contracts
abbrev pub part_block : ℕ → ℕ → Call → ℕ → Block
part_block u cols call i =
    record {
      stride = 16 / u * cols;
      x = part_x u call i;
      y = part_y u call i;
      w = partition_width call.mode / u;
      h = partition_height call.mode / u;
    }
