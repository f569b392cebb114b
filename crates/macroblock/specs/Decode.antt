-- One macroblock: the questions, then read, apply, write. A refused call changes nothing.
-- Assumes nothing.
use Rattle.std.specs.Prelude.{List, ℕ, ◌+◌, ◌-◌, eqb, length, drop}
use Rattle.std.proofs.lemmas.List.Edits.{sets}
use Rattle.ints.specs.Z.{when◌then◌else◌}
use Rattle.refusal.specs.Got.{Got, got, refused}
use Rattle.bits.specs.Bits.{bit_list}
use Rattle.state.specs.Questions.{ask_call}
use Rattle.state.specs.declared.Call.{Call}
use Rattle.state.specs.Questions.{Asked}
use Rattle.record.specs.Record.{Record}
use Rattle.record.specs.Write.{record_bytes}
use Rattle.reading.specs.Read.{read_macroblock}
use Rattle.apply.specs.Apply.{applied_luma, applied_chroma, applied_field}
use Rattle.state.specs.State.{State, field_of, context_of, lengths_of}
use Rattle.macroblock.specs.declared.MbReport.{MbReport}
use Rattle.refusal.specs.declared.Refusal.{Refusal}
use Rattle.std.specs.Prelude.{Result, Ok, Err}

-- the answer to a call
abbrev pub MbAnswer : Type 0
MbAnswer = Result MbReport Refusal

-- the quantiser afterwards: a skip keeps it
unfoldable pub quantiser_after : State → Record → ℕ
quantiser_after s r = when eqb r.head.mode 0 then s.quantiser else r.head.quantiser

-- what a record leaves
unfoldable pub applied : State → Record → State
applied s r =
    let f = applied_field r (field_of s) in
    record {
      cols = s.cols;
      rows = s.rows;
      halfpel = s.halfpel;
      thirdpel = s.thirdpel;
      delta = s.delta;
      quantiser = quantiser_after s r;
      ry = s.ry;
      rcb = s.rcb;
      rcr = s.rcr;
      y = applied_luma s.cols s.rows s.ry r s.y;
      cb = applied_chroma 0 s.cols s.rows s.rcb r s.cb;
      cr = applied_chroma 1 s.cols s.rows s.rcr r s.cr;
      mv = f.mv;
      marks = f.marks;
    }

-- what a call answers, and what it leaves
pub record Outcome : Type 0 where
  pub answer : MbAnswer
  pub state : State
  pub transcript : List ℕ

abbrev pub kept : State → List ℕ → MbAnswer → Outcome
kept s transcript answer = record { answer = answer; state = s; transcript = transcript }

-- accepted: the record stands in the transcript from its fill on
unfoldable pub outcome_of : State → ℕ → List ℕ → ℕ → Got Record → Outcome
outcome_of s place transcript fill (got r n) =
    record {
      answer = Ok (record { place = place + n; quantiser = quantiser_after s r; fill = fill + length (record_bytes r); clipped = r.head.clipped });
      state = applied s r;
      transcript = sets transcript fill (record_bytes r);
    }
outcome_of s place transcript fill (refused why) = kept s transcript (Err why)

abbrev pub unless_refused : Asked → State → List ℕ → Outcome → Outcome
unless_refused (Ok _) s transcript done = done
unless_refused (Err why) s transcript done = kept s transcript (Err why)

-- the answer to the call's questions
abbrev pub asked : State → Call → List ℕ → ℕ → List ℕ → ℕ → Asked
asked s call bits place transcript fill = ask_call s.cols s.rows (lengths_of s) call s.quantiser (length bits) place (length transcript - fill)

unfoldable pub decoded : State → Call → List ℕ → ℕ → List ℕ → ℕ → Outcome
decoded s call bits place transcript fill =
    unless_refused (asked s call bits place transcript fill) s transcript
    (outcome_of s place transcript fill (read_macroblock (context_of s) call (drop place (bit_list bits))))
