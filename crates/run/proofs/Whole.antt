-- The whole run, by what the check of its list answered.
-- Assumes nothing.
use mathlib.Core.Path.{◌≡◌, refl, sym, ap}
use mathlib.Core.List.{List, [], ◌∷◌}
use Prim.Native.Nat.{ℕ, ◌-◌}
use native.Mathlib.Omega.{arith}
use lib.ListN.{length}
use Rattle.refusal.specs.Got.{Got, got, refused}
use Rattle.refusal.specs.declared.Refusal.{Refusal}
use Rattle.state.specs.Questions.{ask_run}
use Rattle.state.specs.declared.Call.{Call}
use Rattle.run.specs.Calls.{calls}
use Rattle.run.specs.InnerCalls.{calls_answer}
use Rattle.std.specs.Prelude.{Ok, Err}
use Rattle.state.specs.State.{State, lengths_of}
use Rattle.run.specs.Run.{ended, ran, ran_of, ran_list}
use Rattle.run.specs.Left.{report_of, leaves, list_left}
use Rattle.run.specs.InnerLeft.{Listed, from_of, calls_left}

apart : {A : Type 0} {why : Refusal} {n : ℕ} → Ok n ≡ Err why → A
apart e = absurd (let z : ◌≡◌ {A = ℕ} 0 1 = cc in omega arith)

pub listed : (list : List ℕ) {n : ℕ} → Ok n ≡ calls_answer (calls list) → Listed list
listed list {n} e = go (calls list) refl e
  where
    go : (g : Got (List Call)) → calls list ≡ g → Ok n ≡ calls_answer g → Listed list
    go (got cs k) x h = record { cs = cs; taken = k; is = x }
    go (refused w) x h = apart h

module _ (s : State) (list bits : List ℕ) (place : ℕ) (t : List ℕ) where
  -- no bit was taken
  none-taken : 0 ≡ place - place
  none-taken = omega arith

  pub refused-list : {why : Refusal} → Err why ≡ calls_answer (calls list) → record { report = report_of 0 0 place s.quantiser 0 (Err why); state = s; transcript = t } ≡ list_left s list bits place t
  unfolding list_left ran_list leaves ended
  refused-list {why} e = go (calls list) e
    where
      go : (g : Got (List Call)) → Err why ≡ calls_answer g → record { report = report_of 0 0 place s.quantiser 0 (Err why); state = s; transcript = t } ≡ leaves 0 place (ran_of s g bits place t)
      go (got cs n) h = apart (sym h)
      go (refused w) h = let x : why ≡ w = cc in (λ i. record { report = report_of 0 (none-taken i) place s.quantiser 0 (Err (x i)); state = s; transcript = t })

  module _ {n : ℕ} (e : Ok n ≡ calls_answer (calls list)) where
    pub no_call : n ≡ 0 → record { report = report_of 0 0 place s.quantiser 0 (ask_run s.cols s.rows (lengths_of s) s.quantiser (length bits) place); state = s; transcript = t } ≡ list_left s list bits place t
    unfolding list_left ran_list leaves ended ran
    no_call z = go (calls list) e
      where
        go : (g : Got (List Call)) → Ok n ≡ calls_answer g
            → record { report = report_of 0 0 place s.quantiser 0 (ask_run s.cols s.rows (lengths_of s) s.quantiser (length bits) place); state = s; transcript = t } ≡ leaves 0 place (ran_of s g bits place t)
        go (got [] k) h = ap (λ (taken : ℕ). record { report = report_of 0 taken place s.quantiser 0 (ask_run s.cols s.rows (lengths_of s) s.quantiser (length bits) place); state = s; transcript = t }) none-taken
        go (got (c ∷ cs) k) h = absurd (let x : n ≡ length (c ∷ cs) = cc in omega arith)
        go (refused w) h = apart h

    pub some-calls : (n ≡ 0 → ⊥) → calls_left s list bits place t ≡ list_left s list bits place t
    unfolding list_left calls_left ran_list ran
    some-calls z = go (calls list) e
      where
        go : (g : Got (List Call)) → Ok n ≡ calls_answer g → leaves 0 place (from_of s g bits place t 0) ≡ leaves 0 place (ran_of s g bits place t)
        go (got [] k) h = absurd (z (let x : n ≡ length {A = Call} [] = cc in omega arith))
        go (got (c ∷ cs) k) h = refl
        go (refused w) h = refl
