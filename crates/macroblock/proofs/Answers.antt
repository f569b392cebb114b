-- What a call answers: refused, and nothing has changed; or accepted, with the record that was read.
-- Assumes nothing.
use mathlib.Core.Path.{◌≡◌, refl, sym, ap, ◌∙◌}
use mathlib.Core.List.{List}
use Prim.Native.Nat.{ℕ, ◌+◌, ◌≤◌}
use native.Mathlib.Omega.{arith}
use lib.ListN.{drop}
use Rattle.refusal.specs.Got.{Got, got, refused}
use Rattle.refusal.specs.declared.Refusal.{Refusal}
use Rattle.bits.specs.Bits.{bit_list}
use Rattle.state.specs.declared.Call.{Call}
use Rattle.state.specs.Questions.{Asked}
use Rattle.record.specs.Record.{Record}
use Rattle.reading.specs.Read.{read_macroblock}
use Rattle.state.specs.State.{State, context_of}
use Rattle.macroblock.specs.Decode.{Outcome, kept, outcome_of, asked, decoded}
use Rattle.macroblock.specs.Entry.{cursor_by}
use Rattle.macroblock.specs.declared.MbReport.{MbReport}
use Rattle.macroblock.specs.Decode.{MbAnswer}
use Rattle.std.specs.Prelude.{Ok, Err}

data Answered (s : State) (call : Call) (bits : List ℕ) (place : ℕ) (t : List ℕ) (fill : ℕ) : Type 0 where
  no : (why : Refusal) → decoded s call bits place t fill ≡ kept s t (Err why) → Answered s call bits place t fill
  yes : (r : Record) (n : ℕ) → decoded s call bits place t fill ≡ outcome_of s place t fill (got r n) → Answered s call bits place t fill

answered : (s : State) (call : Call) (bits : List ℕ) (place : ℕ) (t : List ℕ) (fill : ℕ) → Answered s call bits place t fill
unfolding decoded outcome_of
answered s call bits place t fill =
    go (asked s call bits place t fill) refl
    (read_macroblock (context_of s) call (drop place (bit_list bits))) refl
  where
    go : (a : Asked) → asked s call bits place t fill ≡ a
        → (g : Got Record) → read_macroblock (context_of s) call (drop place (bit_list bits)) ≡ g → Answered s call bits place t fill
    go (Err why) e g h = no why (rw e)
    go (Ok u) e (refused why) h = no why (rw (e, h))
    go (Ok u) e (got r n) h = yes r n (rw (e, h))

never : {A : Type 0} {why : Refusal} {report : MbReport} → Ok report ≡ Err why → A
never e = absurd (let z : ◌≡◌ {A = ℕ} 0 1 = cc in omega arith)

-- refused: nothing has changed
pub refused-kept : (s : State) (call : Call) (bits : List ℕ) (place : ℕ) (t : List ℕ) (fill : ℕ) {o : Outcome} {why : Refusal} → o ≡ decoded s call bits place t fill → o.answer ≡ Err why → o ≡ kept s t (Err why)
unfolding outcome_of
refused-kept s call bits place t fill {o} {why} e a = go (answered s call bits place t fill)
  where
    go : Answered s call bits place t fill → o ≡ kept s t (Err why)
    go (no w x) = let y = e ∙ x in y ∙ ap (λ (m : MbAnswer). kept s t m) (sym (ap (λ (p : Outcome). p.answer) y) ∙ a)
    go (yes r n x) = never (sym (ap (λ (p : Outcome). p.answer) (e ∙ x)) ∙ a)

-- accepted: the place has not moved back
pub accepted-on : (s : State) (call : Call) (bits : List ℕ) (place : ℕ) (t : List ℕ) (fill : ℕ) {o : Outcome} {report : MbReport} → o ≡ decoded s call bits place t fill → o.answer ≡ Ok report → place ≤ report.place
unfolding outcome_of
accepted-on s call bits place t fill {o} {report} e a = go (answered s call bits place t fill)
  where
    go : Answered s call bits place t fill → place ≤ report.place
    go (no w x) = never (sym a ∙ ap (λ (p : Outcome). p.answer) (e ∙ x))
    go (yes r n x) = let z : report.place ≡ place + n = ap (λ (m : MbAnswer). (cursor_by place 0 m).place) (sym a ∙ ap (λ (p : Outcome). p.answer) (e ∙ x)) in omega arith
