-- What the inner function of the replay requires and leaves.
-- Assumes nothing.
use Rattle.std.specs.Prelude.{◌≡◌, List, ℕ}
use Rattle.refusal.specs.Got.{Got, got, refused}
use Rattle.record.specs.Record.{Record}
use Rattle.transcript.specs.Records.{records}
use Rattle.state.specs.State.{State}
use Rattle.replay.specs.Replay.{applied_all}

-- a transcript that passed the check
pub record Recorded (cols rows : ℕ) (bytes : List ℕ) : Type 0 where
  pub rs : List Record
  pub taken : ℕ
  pub is : records cols rows bytes ≡ got rs taken

-- the records' work; where there are none to be read, none
abbrev pub applied_of : State → Got (List Record) → State
applied_of s (got rs n) = applied_all s rs
applied_of s (refused why) = s

unfoldable pub all_left : State → List ℕ → State
all_left s bytes = applied_of s (records s.cols s.rows bytes)
