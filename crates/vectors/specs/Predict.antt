-- The predictor of a partition: from its neighbours' vectors, then held in the picture.
-- Vectors are one list of numbers, horizontal then vertical for each 4 × 4 cell, the cells by rows; marks have one number for each cell.
-- Assumes nothing.
use Rattle.std.specs.Prelude.{◌&&◌, List, ℕ, zero, suc, ◌+◌, ◌-◌, ◌*◌, eqb, ltb, ℤ, pos, ◌+ℤ◌, ◌-ℤ◌, get_or, Option, Some, None}
use Rattle.std.specs.Option.{option_or, unwrap_or}
use Rattle.ints.specs.Z.{when◌then◌else◌, clamp_z, median_z}
use Rattle.vectors.specs.declared.svq3_frame.Vector.{Vector}
use Rattle.picture.specs.Field.{Field}

-- a vector, in sixths
abbrev pub vector : ℤ → ℤ → Vector
vector x y = record { x = record { 0 = x }; y = record { 0 = y } }

-- vector i of the numbers
abbrev pub vector_in : List ℤ → ℕ → Vector
vector_in mv i = vector (get_or mv (2 * i) (pos 0)) (get_or mv (2 * i + 1) (pos 0))

-- the vector of cell i: missing where it is marked 0
unfoldable pub cell_at : List ℤ → List ℕ → ℕ → Option Vector
cell_at mv marks i =
    when eqb (get_or marks i 0) 0
    then None
    else Some (vector_in mv i)

-- the vector in column x of row y: missing off the picture or marked 0
unfoldable pub near_at : Field → ℕ → ℕ → Option Vector
near_at f x y =
    when ltb x (4 * f.cols) && ltb y (4 * f.rows)
    then cell_at f.mv f.marks (y * (4 * f.cols) + x)
    else None

-- left of column x, above row y, above them to the left; column 0 and row 0 have none
unfoldable pub left_of : Field → ℕ → ℕ → Option Vector
left_of f zero y = None
left_of f (suc x) y = near_at f x y

unfoldable pub above_of : Field → ℕ → ℕ → Option Vector
above_of f x zero = None
above_of f x (suc y) = near_at f x y

unfoldable pub above_left_of : Field → ℕ → ℕ → Option Vector
above_left_of f x zero = None
above_left_of f x (suc y) = left_of f x y

-- C, or D where C is missing
abbrev pub or_else : Option Vector → Option Vector → Option Vector
or_else c d = option_or c d

-- ---- the predictor
-- its vector, 0 where it is missing
abbrev pub vector_of : Option Vector → Vector
vector_of a = unwrap_or a (vector (pos 0) (pos 0))

-- the median of each component
unfoldable pub median_of : Vector → Vector → Vector → Vector
median_of a b c = vector (median_z a.x.0 b.x.0 c.x.0) (median_z a.y.0 b.y.0 c.y.0)

-- 1 where there is a vector
abbrev pub present : Option Vector → ℕ
present None = 0
present (Some v) = 1

-- none: 0; one: that one; more: the median, missing ones as 0
unfoldable pub combined : Option Vector → Option Vector → Option Vector → Vector
combined a b c =
    when ltb (present a + present b + present c) 2
    then vector_of (or_else a (or_else b c))
    else median_of (vector_of a) (vector_of b) (vector_of c)

-- of a partition whose first cell is (x, y) and that is `wide` cells wide: A left, B above, and C above right, or D above left
unfoldable pub predicted : Field → ℕ → ℕ → ℕ → Vector
predicted f x y wide = combined (left_of f x y) (above_of f x y) (or_else (above_of f (x + wide) y) (above_left_of f x y))

-- 6 · place + p held in 0 to 6 · (side - span), as a vector again
unfoldable pub held_in : ℕ → ℕ → ℕ → ℤ → ℤ
held_in side place span p = clamp_z (pos 0) (pos (6 * (side - span))) (pos (6 * place) +ℤ p) -ℤ pos (6 * place)

-- of a partition of wide × high cells: the prediction, held in the coded picture's samples, 16 a macroblock and 4 a cell
unfoldable pub predictor : Field → ℕ → ℕ → ℕ → ℕ → Vector
predictor f x y wide high =
    vector
    (held_in (16 * f.cols) (4 * x) (4 * wide) (predicted f x y wide).x.0)
    (held_in (16 * f.rows) (4 * y) (4 * high) (predicted f x y wide).y.0)
