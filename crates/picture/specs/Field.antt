-- The field: for each cell of a picture a vector and a mark.
-- Assumes nothing.
use Rattle.std.specs.Prelude.{List, ℕ, ℤ}

-- ---- neighbours
-- the vectors and marks of a picture of cols × rows macroblocks
pub record Field : Type 0 where
  pub cols : ℕ
  pub rows : ℕ
  pub mv : List ℤ
  pub marks : List ℕ
