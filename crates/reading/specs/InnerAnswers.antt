-- What the functions that read a macroblock answer and leave.
-- Assumes nothing.
use Rattle.std.specs.Prelude.{◌≡◌, List, ℕ, ◌/◌, ℤ, Result}
use Rattle.refusal.specs.Got.{Got, got, map_got}
use Rattle.refusal.specs.Answered.{answered}
use Rattle.refusal.specs.declared.Refusal.{Refusal}
use Rattle.vectors.specs.Modes.{partition_width, partition_height}
use Rattle.picture.specs.InnerField.{lent_field}
use Rattle.vectors.specs.InnerWindow.{Follows}
use Rattle.vectors.specs.declared.window.Neighbours.{Neighbours}
use Rattle.record.specs.Record.{Record}
use Rattle.record.specs.declared.Head.{Head}
use Rattle.state.specs.State.{Context}
use Rattle.reading.specs.Read.{Moving}
use Rattle.state.specs.declared.Flags.{Flags}
use Rattle.reading.specs.declared.svq3_frame.Motion.{Motion}

-- what reading depends on, as a function is lent it
abbrev pub lent_context : ℕ → ℕ → List ℤ → List ℕ → Flags → ℕ → Context
lent_context cols rows mv marks flags q = record { field = lent_field cols rows mv marks; halfpel = flags.halfpel; thirdpel = flags.thirdpel; delta = flags.delta; quantiser = q }

-- ---- the answers of readers that started at a place
-- how many components were clipped
abbrev pub vectors_answer : ℕ → Got Moving → Result (ℕ × ℕ) Refusal
vectors_answer at read = answered at (map_got (λ m. m.clipped) read)

-- the record's head
abbrev pub read_answer : ℕ → Got Record → Result (Head × ℕ) Refusal
read_answer at read = answered at (map_got (λ r. r.head) read)

-- what was read of the vectors, as the code holds it: how many components were clipped, the vectors, and a window that follows the field
pub record Holds (m : Moving) (motion : Motion) (clipped : ℕ) (vectors : List ℤ) (near : Neighbours) : Type 0 where
  pub count : clipped ≡ m.clipped
  pub stored : vectors ≡ m.vectors
  pub follows : Follows (partition_width motion.mb.call.mode / 4) (partition_height motion.mb.call.mode / 4) m.field motion.mb.grid.cols motion.mb.grid.rows motion.mb.call.column motion.mb.call.row near

-- the answer of a reader of one partition's vector, and what it leaves, which is said where it has a vector
pub record Stepping (motion : Motion) (at : ℕ) (read : Got Moving) (answer : Result (ℕ × ℕ) Refusal) (vectors : List ℤ) (near : Neighbours) : Type 0 where
  pub answers : answer ≡ vectors_answer at read
  pub leaves : (m : Moving) (n : ℕ) → read ≡ got m n → Holds m motion m.clipped vectors near

-- of all vectors
pub record Vectoring (at : ℕ) (read : Got Moving) (answer : Result (ℕ × ℕ) Refusal) (vectors : List ℤ) : Type 0 where
  pub answers : answer ≡ vectors_answer at read
  pub leaves : (m : Moving) (n : ℕ) → read ≡ got m n → vectors ≡ m.vectors

-- of a record: the vectors and levels that are left are the record's where there is one
pub record Reading (at : ℕ) (read : Got Record) (answer : Result (Head × ℕ) Refusal) (vectors levels : List ℤ) : Type 0 where
  pub answers : answer ≡ read_answer at read
  pub leaves : (r : Record) (n : ℕ) → read ≡ got r n → (vectors ≡ r.vectors) × (levels ≡ r.levels)
