-- Replay: the records of a transcript, all read before anything changes, then applied one after another.
-- Assumes nothing.
use Rattle.std.specs.Prelude.{List, [], ◌∷◌, ℕ, length, Result, Ok, Err}
use Rattle.refusal.specs.Got.{Got, got, refused}
use Rattle.state.specs.Questions.{ask_replay}
use Rattle.state.specs.Questions.{Asked}
use Rattle.record.specs.Record.{Record}
use Rattle.transcript.specs.Records.{records}
use Rattle.state.specs.State.{State, lengths_of}
use Rattle.macroblock.specs.Decode.{applied}
use Rattle.replay.specs.declared.ReplayReport.{ReplayReport}
use Rattle.refusal.specs.declared.Refusal.{Refusal}

-- the answer to a replay
abbrev pub ReplayAnswer : Type 0
ReplayAnswer = Result ReplayReport Refusal

-- each record's work in turn
unfoldable pub applied_all : State → List Record → State
applied_all s [] = s
applied_all s (r ∷ rs) = applied_all (applied s r) rs

pub record Replay : Type 0 where
  pub answer : ReplayAnswer
  pub state : State

unfoldable pub replay_of : State → Got (List Record) → Replay
replay_of s (got rs n) = let t = applied_all s rs in record { answer = Ok (record { records = length rs; quantiser = t.quantiser }); state = t }
replay_of s (refused why) = record { answer = Err why; state = s }

abbrev pub unless_asked : Asked → State → Replay → Replay
unless_asked (Ok _) s done = done
unless_asked (Err why) s done = record { answer = Err why; state = s }

-- 1 to 4 and 6, then the check of all records, then the work
unfoldable pub replayed : State → List ℕ → Replay
replayed s bytes = unless_asked (ask_replay s.cols s.rows (lengths_of s) s.quantiser) s (replay_of s (records s.cols s.rows bytes))

-- the quantiser after an answer: a refused replay keeps it
abbrev pub quantiser_of : ℕ → ReplayAnswer → ℕ
quantiser_of q (Ok report) = report.quantiser
quantiser_of q (Err why) = q

-- an answer and the state that the slices make
abbrev pub replay_left : ReplayAnswer → State → Replay
replay_left answer s = record { answer = answer; state = s }
