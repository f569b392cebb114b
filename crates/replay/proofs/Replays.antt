-- The whole replay, by what its questions and the check answered.
-- Assumes nothing.
use mathlib.Core.Path.{◌≡◌, refl, sym, ap, ◌∙◌}
use mathlib.Core.Bool.{true}
use mathlib.Core.List.{List}
use Prim.Native.Nat.{ℕ}
use native.Mathlib.Omega.{arith}
use lib.ListN.{length}
use Rattle.refusal.specs.Got.{Got, got, refused}
use Rattle.refusal.specs.declared.Refusal.{Refusal}
use Rattle.state.specs.InnerSizes.{AllSized}
use Rattle.state.specs.Questions.{grid_right, ask_replay, ask_quantiser}
use Rattle.state.specs.Questions.{Asked, yes}
use Rattle.std.specs.Prelude.{Ok, Err}
use Rattle.state.proofs.Laws.{GridRange, grid-range}
use Rattle.state.proofs.Yes.{Started, started, all-sized}
use Rattle.record.specs.Record.{Record}
use Rattle.transcript.specs.Records.{records}
use Rattle.transcript.specs.Check.{check_answer}
use Rattle.state.specs.State.{State, lengths_of}
use Rattle.replay.specs.Replay.{applied_all, replay_of, replayed}
use Rattle.replay.specs.InnerRecorded.{Recorded, applied_of, all_left}

apart : {A : Type 0} {why : Refusal} {n : ℕ} → Ok n ≡ Err why → A
apart e = absurd (let z : ◌≡◌ {A = ℕ} 0 1 = cc in omega arith)

module _ (s : State) (bytes : List ℕ) where
  abbrev pub asked : Asked
  asked = ask_replay s.cols s.rows (lengths_of s) s.quantiser

  -- a question was answered with no
  pub not-asked : {why : Refusal} → Err why ≡ asked → record { answer = Err why; state = s } ≡ replayed s bytes
  unfolding replayed
  not-asked e = rw (← e)

  module _ (all : yes ≡ asked) where
    facts : Started s.cols s.rows (lengths_of s) (ask_quantiser s.quantiser yes)
    unfolding ask_replay
    facts = started s.cols s.rows (lengths_of s) (ask_quantiser s.quantiser yes) (sym all)

    pub right : grid_right s.cols s.rows ≡ true
    right = facts.one

    pub in-grid : GridRange s.cols s.rows
    in-grid = grid-range s.cols s.rows right

    pub sized : AllSized s.cols s.rows (lengths_of s)
    sized = all-sized s.cols s.rows (lengths_of s) facts

    asked_is : replay_of s (records s.cols s.rows bytes) ≡ replayed s bytes
    unfolding replayed
    asked_is = rw (← all)

    -- a record was refused
    pub not-checked : {why : Refusal} → Err why ≡ check_answer (records s.cols s.rows bytes) → record { answer = Err why; state = s } ≡ replayed s bytes
    unfolding replay_of
    not-checked {why} e = go (records s.cols s.rows bytes) e ∙ asked_is
      where
        go : (g : Got (List Record)) → Err why ≡ check_answer g → record { answer = Err why; state = s } ≡ replay_of s g
        go (got rs n) h = apart (sym h)
        go (refused w) h = let x : why ≡ w = cc in ap (λ (r : Refusal). record { answer = Err r; state = s }) x

    module _ {n : ℕ} (e : Ok n ≡ check_answer (records s.cols s.rows bytes)) where
      pub recorded : Recorded s.cols s.rows bytes
      recorded = go (records s.cols s.rows bytes) refl e
        where
          go : (g : Got (List Record)) → records s.cols s.rows bytes ≡ g → Ok n ≡ check_answer g → Recorded s.cols s.rows bytes
          go (got rs k) x h = record { rs = rs; taken = k; is = x }
          go (refused w) x h = apart h

      -- all were applied: the slices make the state S q with the quantiser q
      pub all-applied : (S : ℕ → State) (q : ℕ) → (S q).quantiser ≡ q → S q ≡ all_left s bytes → record { answer = Ok (record { records = n; quantiser = q }); state = S q } ≡ replayed s bytes
      unfolding replay_of all_left
      all-applied S q z w = go (records s.cols s.rows bytes) e w ∙ asked_is
        where
          go : (g : Got (List Record)) → Ok n ≡ check_answer g → S q ≡ applied_of s g → record { answer = Ok (record { records = n; quantiser = q }); state = S q } ≡ replay_of s g
          go (got rs k) h x =
              let m : n ≡ length rs = cc in
              let v : q ≡ (applied_all s rs).quantiser = sym z ∙ ap (λ (t : State). t.quantiser) x in
              λ i. record { answer = Ok (record { records = m i; quantiser = v i }); state = x i }
          go (refused w') h x = apart h
