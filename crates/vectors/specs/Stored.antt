-- A vector stored, marked 1, in each cell of a partition: wide × high cells from column x of row y on.
-- Assumes nothing.
use Rattle.std.specs.Prelude.{List, ℕ, ◌*◌, ◌%◌, eqb, ℤ}
use Rattle.ints.specs.Z.{when◌then◌else◌}
use Rattle.picture.specs.Painted.{painted}
use Rattle.picture.specs.Picture.{filled}
use Rattle.picture.specs.Field.{Field}

-- horizontal at even columns of the list of numbers, vertical at odd ones
unfoldable pub pair_of : ℤ → ℤ → ℕ → ℕ → ℤ
pair_of vx vy r c = when eqb (c % 2) 0 then vx else vy

-- vectors and marks by rows of `stride` cells, afterwards
unfoldable pub stored_vectors : List ℤ → ℕ → ℕ → ℕ → ℕ → ℕ → ℤ → ℤ → List ℤ
stored_vectors mv stride x y wide high vx vy = painted (2 * stride) (2 * x) y (2 * wide) high (pair_of vx vy) mv

unfoldable pub stored_marks : List ℕ → ℕ → ℕ → ℕ → ℕ → ℕ → List ℕ
stored_marks marks stride x y wide high = filled marks stride x y wide high 1

-- a picture's, whose rows have 4 cells a macroblock
unfoldable pub stored_field : Field → ℕ → ℕ → ℕ → ℕ → ℤ → ℤ → Field
stored_field f x y wide high vx vy = record {
  cols = f.cols;
  rows = f.rows;
  mv = stored_vectors f.mv (4 * f.cols) x y wide high vx vy;
  marks = stored_marks f.marks (4 * f.cols) x y wide high;
}
