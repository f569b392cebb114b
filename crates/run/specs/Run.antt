-- A run: the calls in order, each at the place and in the state that the last left; it stops at the first refusal and keeps what earlier calls did.
-- Assumes nothing.
use Rattle.std.specs.Prelude.{Bool, List, [], ◌∷◌, ℕ, ◌+◌, ◌-◌, length, take, drop, Result, Ok, Err}
use Rattle.refusal.specs.Got.{Got, got, refused}
use Rattle.refusal.specs.declared.Refusal.{Refusal}
use Rattle.bits.specs.Bits.{bit_list}
use Rattle.run.specs.Calls.{calls}
use Rattle.state.specs.Questions.{ask_run}
use Rattle.state.specs.declared.Call.{Call}
use Rattle.state.specs.State.{State, lengths_of}
use Rattle.macroblock.specs.Decode.{decoded}
use Rattle.macroblock.specs.Decode.{MbAnswer}

-- why a run ended: every call was made, or the refusal that stopped it
abbrev pub Stop : Type 0
Stop = Result (Unit {0}) Refusal

-- the accepted calls, what the last of them left, how many components they clipped, and why the run ended
pub record Ran : Type 0 where
  pub accepted : List Call
  pub state : State
  pub place : ℕ
  pub transcript : List ℕ
  pub fill : ℕ
  pub clipped : ℕ
  pub stop : Stop

unfoldable pub ended : State → ℕ → List ℕ → ℕ → Stop → Ran
ended s place transcript fill stop = record { accepted = []; state = s; place = place; transcript = transcript; fill = fill; clipped = 0; stop = stop }

-- a call more in front
unfoldable pub with_call : Call → ℕ → Ran → Ran
with_call call clipped r =
    record { accepted = call ∷ r.accepted; state = r.state; place = r.place; transcript = r.transcript; fill = r.fill; clipped = clipped + r.clipped; stop = r.stop }

-- the calls after one that answered
abbrev pub onward : Call → State → ℕ → List ℕ → ℕ → MbAnswer → (ℕ → ℕ → Ran) → Ran
onward call s place transcript fill (Ok report) next = with_call call report.clipped (next report.place report.fill)
onward call s place transcript fill (Err why) next = ended s place transcript fill (Err why)

unfoldable pub ran_from : State → List Call → List ℕ → ℕ → List ℕ → ℕ → Ran
ran_from s [] bits place transcript fill = ended s place transcript fill (Ok tt)
ran_from s (call ∷ calls) bits place transcript fill =
    let o = decoded s call bits place transcript fill in
    onward call s place transcript fill o.answer (λ p f. ran_from o.state calls bits p o.transcript f)

-- with no call, 1 to 4, 6 and 7 are asked
unfoldable pub ran : State → List Call → List ℕ → ℕ → List ℕ → Ran
ran s [] bits place transcript = ended s place transcript 0 (ask_run s.cols s.rows (lengths_of s) s.quantiser (length bits) place)
ran s (call ∷ calls) bits place transcript = ran_from s (call ∷ calls) bits place transcript 0

-- of a list that was read, or refused: then nothing is done
abbrev pub ran_of : State → Got (List Call) → List ℕ → ℕ → List ℕ → Ran
ran_of s (got cs n) bits place transcript = ran s cs bits place transcript
ran_of s (refused why) bits place transcript = ended s place transcript 0 (Err why)

-- the calls of a list, whose numbers are all read for 14 before question 1 is asked
unfoldable pub ran_list : State → List ℕ → List ℕ → ℕ → List ℕ → Ran
ran_list s list bits place transcript = ran_of s (calls list) bits place transcript

-- the transcript: the bytes up to the fill
unfoldable pub transcript_of : Ran → List ℕ
transcript_of r = take r.fill r.transcript

-- the consumed bits: the given bits from the first call's place up to the place that the last accepted call left
unfoldable pub consumed : List ℕ → ℕ → Ran → List Bool
consumed bits place r = take (r.place - place) (drop place (bit_list bits))
