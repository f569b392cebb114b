-- The field that lent vectors and marks make.
-- Assumes nothing.
use Rattle.std.specs.Prelude.{List, ℕ, ℤ}
use Rattle.picture.specs.Field.{Field}

abbrev pub lent_field : ℕ → ℕ → List ℤ → List ℕ → Field
lent_field cols rows mv marks = record { cols = cols; rows = rows; mv = mv; marks = marks }
