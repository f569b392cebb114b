-- The sixteen cells of a macroblock: whose vector each of them gets.
-- Assumes nothing.
use Rattle.std.specs.Prelude.{List, ℕ, ◌+◌, ◌*◌, ◌/◌, ◌%◌, ◌^◌, ℤ, pos, get_or}
use Rattle.vectors.specs.Modes.{partition_width, partition_height}

-- the partition of the cell in column c of row r
unfoldable pub owner_of : ℕ → ℕ → ℕ → ℕ
owner_of mode c r = r / (partition_height mode / 4) * (16 / partition_width mode) + c / (partition_width mode / 4)

-- number c of a row of cells: two numbers a cell, its partition a hex digit of `four`
unfoldable pub own_number : List ℤ → ℕ → ℕ → ℤ
own_number vs four c = get_or vs (2 * (four / 2 ^ (4 * (c / 2)) % 16) + c % 2) (pos 0)
