-- What a run starts from, and what each call finds and leaves.
-- Assumes nothing.
use Rattle.std.specs.Prelude.{Bool, List, ℕ, ℤ, length}
use Rattle.picture.specs.Field.{Field}
use Rattle.state.specs.declared.Lengths.{Lengths}

pub record State : Type 0 where
  -- the grid, in macroblocks
  pub cols : ℕ
  pub rows : ℕ
  pub halfpel : Bool
  pub thirdpel : Bool
  pub delta : Bool
  pub quantiser : ℕ
  -- the reference planes, row by row
  pub ry : List ℕ
  pub rcb : List ℕ
  pub rcr : List ℕ
  -- the picture planes
  pub y : List ℕ
  pub cb : List ℕ
  pub cr : List ℕ
  -- for each 4 × 4 cell by rows a vector in sixths, horizontal then vertical, and a mark, 0 for no vector
  pub mv : List ℤ
  pub marks : List ℕ

-- the vectors and marks
abbrev pub field_of : State → Field
field_of s = record { cols = s.cols; rows = s.rows; mv = s.mv; marks = s.marks }

-- what reading depends on beside the bits: the vectors and marks, the flags and the quantiser
pub record Context : Type 0 where
  pub field : Field
  pub halfpel : Bool
  pub thirdpel : Bool
  pub delta : Bool
  pub quantiser : ℕ

abbrev pub context_of : State → Context
context_of s = record { field = field_of s; halfpel = s.halfpel; thirdpel = s.thirdpel; delta = s.delta; quantiser = s.quantiser }

-- what the questions ask about
abbrev pub lengths_of : State → Lengths
lengths_of s =
    record { y = length s.y; cb = length s.cb; cr = length s.cr; mv = length s.mv; marks = length s.marks; ry = length s.ry; rcb = length s.rcb; rcr = length s.rcr }
