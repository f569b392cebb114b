-- A run over a list, a call at a time: what the calls that are left will leave is what the whole list leaves.
-- Assumes nothing.
use mathlib.Core.Path.{◌≡◌, refl, sym, ap, ◌∙◌}
use mathlib.Core.List.{List, ◌∷◌}
use Prim.Native.Nat.{ℕ, suc, ◌+◌, ◌-◌, ◌≤◌, ◌<◌}
use native.Mathlib.Omega.{arith}
use lib.ListN.{length, drop, length-drop}
use Rattle.refusal.specs.Got.{Got}
use Rattle.refusal.specs.declared.Refusal.{Refusal}
use Rattle.state.specs.declared.Call.{Call}
use Rattle.run.specs.Calls.{call_in, calls}
use Rattle.refusal.specs.Answered.{answered}
use Rattle.std.specs.Prelude.{Result}
use Rattle.refusal.proofs.Lists.{Next}
use Rattle.run.proofs.Listing.{calls-none, calls-next}
use Rattle.state.specs.State.{State}
use Rattle.macroblock.specs.Decode.{Outcome, decoded}
use Rattle.macroblock.specs.Entry.{quantiser_by}
use Rattle.macroblock.proofs.Answers.{refused-kept, accepted-on}
use Rattle.macroblock.specs.declared.MbReport.{MbReport}
use Rattle.macroblock.specs.Decode.{MbAnswer}
use Rattle.std.specs.Prelude.{Ok, Err}
use Rattle.run.specs.Run.{ended, with_call, onward, ran_from}
use Rattle.run.specs.Left.{Left, report_of, leaves}
use Rattle.run.specs.InnerLeft.{Listed, from_of, calls_left}

-- ---- the run
-- `accepted` calls were made, the list is read up to `at`, and the next call is at place p
pub record Going (whole : Left) (s : State) (list bits : List ℕ) (place at p : ℕ) (t : List ℕ) (fill accepted consumed : ℕ) : Type 0 where
  pub listed : Listed (drop at list)
  pub same : leaves accepted place (ran_from s listed.cs bits p t fill) ≡ whole
  pub onward : place ≤ p
  pub few : accepted ≤ at
  -- the sum of what the calls took is the place's movement
  pub counted : consumed ≡ p - place

module _ {whole : Left} {s : State} {list bits : List ℕ} {place at p : ℕ} {t : List ℕ} {fill accepted consumed : ℕ} (g : Going whole s list bits place at p t fill accepted consumed) where
  -- no call is left
  pub end : length list ≤ at → record { report = report_of accepted consumed p s.quantiser fill (Ok tt); state = s; transcript = t } ≡ whole
  unfolding leaves ran_from ended
  end h =
      let e = calls-none (drop at list) g.listed.cs g.listed.taken (length-drop at list ∙ omega arith) g.listed.is in
      let z : accepted ≡ accepted + 0 = omega arith in
      (λ i. record { report = report_of (z i) (g.counted i) p s.quantiser fill (Ok tt); state = s; transcript = t })
      ∙ ap (λ (cs : List Call). leaves accepted place (ran_from s cs bits p t fill)) (sym e) ∙ g.same

  module _ (lt : at < length list) where
    next-call : Next call_in calls list at g.listed.cs
    next-call = calls-next list at g.listed.cs g.listed.taken lt g.listed.is

    -- the list is in form
    pub in-form : {A : Type 0} {why : Refusal} → Err why ≡ answered at (call_in (drop at list)) → A
    in-form e = let x = e ∙ ap (answered at) next-call.reads in absurd (let z : ◌≡◌ {A = ℕ} 0 1 = cc in omega arith)

    -- a call was read, and answered; the slices make the state S q with the quantiser q
    module _ {call : Call} {next : ℕ} (e : Ok (call, next) ≡ answered at (call_in (drop at list))) (q : ℕ) (sq : s.quantiser ≡ q) (S : ℕ → State) (a : MbAnswer) (t' : List ℕ)
        (o : ◌≡◌ {A = Outcome} (record { answer = a; state = S (quantiser_by q a); transcript = t' }) (decoded s call bits p t fill)) where
      read_as : ◌≡◌ {A = (Result (Call × ℕ) Refusal)} (Ok (call, next)) (Ok (next-call.x, at + next-call.k))
      read_as = e ∙ ap (answered at) next-call.reads

      same-call : next-call.x ≡ call
      same-call = let x : (next-call.x, at + next-call.k) ≡ (call, next) = (let y = read_as in cc) in ap (λ (q : Call × ℕ). q.0) x

      next-is : next ≡ at + next-call.k
      next-is = let x : (next-call.x, at + next-call.k) ≡ (call, next) = (let y = read_as in cc) in sym (ap (λ (q : Call × ℕ). q.1) x)

      this : ran_from s g.listed.cs bits p t fill ≡ ran_from s (call ∷ next-call.rest) bits p t fill
      this = ap (λ (cs : List Call). ran_from s cs bits p t fill) next-call.is ∙ ap (λ (c : Call). ran_from s (c ∷ next-call.rest) bits p t fill) same-call

      -- the list has been read on
      pub further : at < next
      further = omega (arith, next-is, next-call.some)

      told : {b : MbAnswer} → a ≡ b → record { answer = b; state = S (quantiser_by q b); transcript = t' } ≡ decoded s call bits p t fill
      told h = ap (λ (b : MbAnswer). record { answer = b; state = S (quantiser_by q b); transcript = t' }) (sym h) ∙ o

      pub stopped : {why : Refusal} → a ≡ Err why
          → record { report = report_of accepted consumed p q fill (Err why); state = S q; transcript = t' } ≡ whole
      unfolding leaves ran_from ended
      stopped {why} h =
          let d = told h in
          let k = refused-kept s call bits p t fill d refl in
          let es : S q ≡ s = ap (λ (x : Outcome). x.state) k in
          let et : t' ≡ t = ap (λ (x : Outcome). x.transcript) k in
          let z : accepted ≡ accepted + 0 = omega arith in
          (λ i. record { report = report_of (z i) (g.counted i) p q fill (Err why); state = S q; transcript = t' })
          ∙ ap (λ (x : State). record { report = report_of (accepted + 0) (p - place) p q fill (Err why); state = x; transcript = t' }) es
          ∙ ap (λ (x : List ℕ). record { report = report_of (accepted + 0) (p - place) p q fill (Err why); state = s; transcript = x }) et
          ∙ ap (λ (x : ℕ). record { report = report_of (accepted + 0) (p - place) p x fill (Err why); state = s; transcript = t }) (sym sq)
          ∙ ap (λ (x : Outcome). leaves accepted place (onward call s p t fill x.answer (λ p₁ f₁. ran_from x.state next-call.rest bits p₁ x.transcript f₁))) (sym k ∙ d)
          ∙ ap (leaves accepted place) (sym this) ∙ g.same

      -- the place has not moved back
      pub forward : {report : MbReport} → a ≡ Ok report → p ≤ report.place
      forward h = accepted-on s call bits p t fill (told h) refl

      pub on : {report : MbReport} → a ≡ Ok report → Going whole (S report.quantiser) list bits place next report.place t' report.fill (accepted + 1) (consumed + (report.place - p))
      unfolding leaves ran_from with_call
      on {report} h =
          let d = told h in
          let n = next-call in
          let l : Listed (drop next list) = record { cs = n.rest; taken = n.m; is = ap (λ (i : ℕ). calls (drop i list)) next-is ∙ n.behind } in
          let r = ran_from (S report.quantiser) n.rest bits report.place t' report.fill in
          let z : accepted + 1 + length r.accepted ≡ accepted + suc (length r.accepted) = omega arith in
          let m = forward h in
          record {
            listed = l;
            same =
                ap (λ (i : ℕ). record { report = report_of i (r.place - place) r.place r.state.quantiser r.fill r.stop; state = r.state; transcript = r.transcript }) z
                ∙ ap (λ (x : Outcome). leaves accepted place (onward call s p t fill x.answer (λ p₂ f₂. ran_from x.state n.rest bits p₂ x.transcript f₂))) d
                ∙ ap (leaves accepted place) (sym this) ∙ g.same;
            onward = omega (arith, g.onward, m);
            few = omega (arith, g.few, next-is, n.some);
            counted = omega (arith, g.onward, g.counted, m);
          }

-- at first
pub start : {s : State} {list bits : List ℕ} {place : ℕ} {t : List ℕ} (l : Listed list) → Going (calls_left s list bits place t) s list bits place 0 place t 0 0 0
unfolding calls_left
start {s} {list} {bits} {place} {t} l = record { listed = l; same = ap (λ (x : Got (List Call)). leaves 0 place (from_of s x bits place t 0)) (sym l.is); onward = omega arith; few = omega arith; counted = omega arith }
