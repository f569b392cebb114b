-- The state that lent slices and numbers make, and the outcome that a function leaves in them.
-- Assumes nothing.
use Rattle.std.specs.Prelude.{List, ℕ, ℤ}
use Rattle.std.specs.Borrow.{Bor, MutBor}
use denote.Triple.Both.{Both}
use Rattle.state.specs.State.{State}
use Rattle.macroblock.specs.Decode.{Outcome}
use Rattle.state.specs.declared.Frame.{Frame}
use Rattle.state.specs.declared.Cursor.{Cursor}
use Rattle.macroblock.specs.Decode.{MbAnswer}
use Rattle.std.specs.Prelude.{Ok, Err}

abbrev pub state_of : Frame → ℕ → List ℕ → List ℕ → List ℕ → List ℕ → List ℕ → List ℕ → List ℤ → List ℕ → State
state_of frame quantiser ry rcb rcr y cb cr mv marks =
    record {
      cols = frame.grid.cols;
      rows = frame.grid.rows;
      halfpel = frame.flags.halfpel;
      thirdpel = frame.flags.thirdpel;
      delta = frame.flags.delta;
      quantiser = quantiser;
      ry = ry;
      rcb = rcb;
      rcr = rcr;
      y = y;
      cb = cb;
      cr = cr;
      mv = mv;
      marks = marks;
    }

-- a slice that is lent for reading, and one that is lent for writing, in an `ensures`: as it was at entry and as it is at exit
abbrev pub Lent : Type 0 → Type 0
Lent A = Both (Bor A) (Bor A)

abbrev pub LentMut : Type 0 → Type 0
LentMut A = Both (MutBor A) (MutBor A)

-- the state that lent slices make: in a `requires`; in an `ensures` at entry; and at exit, where the reference is as it was
abbrev pub state_now : Frame → ℕ → Bor (List ℕ) → Bor (List ℕ) → Bor (List ℕ) → MutBor (List ℕ) → MutBor (List ℕ) → MutBor (List ℕ) → MutBor (List ℤ) → MutBor (List ℕ) → State
state_now frame quantiser ry rcb rcr y cb cr mv marks = state_of frame quantiser ry.now rcb.now rcr.now y.now cb.now cr.now mv.now marks.now

abbrev pub state_before : Frame → ℕ → Lent (List ℕ) → Lent (List ℕ) → Lent (List ℕ) → LentMut (List ℕ) → LentMut (List ℕ) → LentMut (List ℕ) → LentMut (List ℤ) → LentMut (List ℕ) → State
state_before frame quantiser ry rcb rcr y cb cr mv marks = state_now frame quantiser ry.entry rcb.entry rcr.entry y.entry cb.entry cr.entry mv.entry marks.entry

abbrev pub state_after : Frame → ℕ → Lent (List ℕ) → Lent (List ℕ) → Lent (List ℕ) → LentMut (List ℕ) → LentMut (List ℕ) → LentMut (List ℕ) → LentMut (List ℤ) → LentMut (List ℕ) → State
state_after frame quantiser ry rcb rcr y cb cr mv marks = state_now frame quantiser ry.entry rcb.entry rcr.entry y.exit cb.exit cr.exit mv.exit marks.exit

-- the quantiser after an answer: a refused call keeps it
abbrev pub quantiser_by : ℕ → MbAnswer → ℕ
quantiser_by q (Ok report) = report.quantiser
quantiser_by q (Err why) = q

abbrev pub mb_left : MbAnswer → State → List ℕ → Outcome
mb_left answer s transcript = record { answer = answer; state = s; transcript = transcript }

-- where an answer leaves the caller's place and quantiser
abbrev pub cursor_by : ℕ → ℕ → MbAnswer → Cursor
cursor_by place q (Ok report) = record { place = report.place; quantiser = report.quantiser }
cursor_by place q (Err why) = record { place = place; quantiser = q }
