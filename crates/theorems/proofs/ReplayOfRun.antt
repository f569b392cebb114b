-- REPLAY OF A RUN: whatever its start, list of calls, bits and place: replaying a run's transcript from that start is refused exactly when the start's own questions refuse it, with that refusal,
-- and leaves every sample, vector, mark and the quantiser as the run left them. Nothing is asked about clipping.
-- Assumes nothing.
use mathlib.Core.Path.{◌≡◌, refl, sym, ap, ◌∙◌}
use mathlib.Core.Bool.{Bool}
use mathlib.Core.List.{List, [], ◌∷◌, ◌++◌}
use Prim.Native.Nat.{ℕ, zero, suc, ◌≤◌}
use native.Mathlib.Omega.{arith}
use lib.ListN.{length, drop, length-append}
use lib.Seq.{drop_at}
use Rattle.refusal.specs.Got.{Got, got, refused}
use Rattle.refusal.specs.declared.Refusal.{Refusal}
use Rattle.state.specs.Questions.{ask_replay}
use Rattle.state.specs.declared.Call.{Call}
use Rattle.state.specs.Questions.{Asked}
use Rattle.std.specs.Prelude.{Ok, Err}
use Rattle.record.specs.Record.{Record}
use Rattle.record.specs.Write.{record_bytes}
use Rattle.record.specs.Parse.{parse_record}
use Rattle.record.proofs.Records.{record-format}
use Rattle.record.proofs.Lengths.{record-some}
use Rattle.state.specs.State.{State, lengths_of}
use Rattle.macroblock.specs.Decode.{Outcome, decoded}
use Rattle.run.specs.Calls.{calls}
use Rattle.run.specs.Run.{Ran, ended, onward, ran_from, ran, ran_of, ran_list, transcript_of}
use Rattle.refusal.proofs.Lists.{until-end, until-turn}
use Rattle.transcript.specs.Records.{records_in, records}
use Rattle.replay.specs.Replay.{applied_all, replay_of, unless_asked, replayed}
use Rattle.replay.specs.Replay.{ReplayAnswer}
use Rattle.theorems.specs.Trace.{Path, done, step, calls_of, bytes_of}
use Rattle.theorems.proofs.Traces.{Kind, no, yes, kind}
use Rattle.theorems.proofs.Paths.{Ranged, none, more, path-ranged}
use Rattle.theorems.proofs.UniqueReading.{list-trace, transcript-is}

-- ---- reading the bytes of records gives them back
records-in : {cols rows : ℕ} {rs : List Record} → Ranged cols rows rs → (turns : ℕ) → length (bytes_of rs) ≤ turns → records_in cols rows turns (bytes_of rs) ≡ got rs (length (bytes_of rs))
unfolding records_in bytes_of
records-in {cols} {rows} none turns h = until-end (parse_record cols rows) turns
records-in (more {r = r} {rs = rs} h k x p) zero l = absurd (omega (arith, record-some r, length-append (record_bytes r) (bytes_of rs)))
records-in {cols} {rows} (more {r = r} {rs = rs} h k x p) (suc turns) l =
    let a = record_bytes r in
    let b = bytes_of rs in
    let la = length-append a b in
    let i = records-in p turns (omega (arith, record-some r)) in
    let d : drop (length a) (a ++ b) ≡ b = drop_at a b (length a) refl in
    until-turn (parse_record cols rows) turns (a ++ b) (omega (arith, record-some r)) ∙ rw ((record-format cols rows h k).reads r b x, d, i, la)

pub records-of : {cols rows : ℕ} {rs : List Record} → Ranged cols rows rs → records cols rows (bytes_of rs) ≡ got rs (length (bytes_of rs))
unfolding records
records-of {rs = rs} p = records-in p (length (bytes_of rs)) (omega arith)

-- ---- applying the records of a path leads where it leads
path-applied : {s t : State} {b : List Bool} {rs : List Record} {k : ℕ} → Path s b rs t k → applied_all s rs ≡ t
unfolding applied_all
path-applied done = refl
path-applied (step call n m a x p sum) = path-applied p

-- ---- a start that is refused is left as it was
yes-no : {A : Type 0} {why : Refusal} {a : Asked} → a ≡ Ok tt → a ≡ Err why → A
yes-no p q = absurd (let z : ◌≡◌ {A = ℕ} 0 1 = cc in omega arith)

untouched : (s : State) (calls : List Call) (bits : List ℕ) (place : ℕ) (room : List ℕ) (why : Refusal) → ask_replay s.cols s.rows (lengths_of s) s.quantiser ≡ Err why → (ran s calls bits place room).state ≡ s
unfolding ran ran_from ended
untouched s [] bits place room why e = refl
untouched s (call ∷ calls) bits place room why e = go (kind s call bits place room 0)
  where
    rest : Outcome → Ran
    rest o = onward call s place room 0 o.answer (λ p f. ran_from o.state calls bits p o.transcript f)

    go : Kind s call bits place room 0 → (rest (decoded s call bits place room 0)).state ≡ s
    go (no w x) = ap (λ (o : Outcome). (rest o).state) x
    go (yes r n a h x) = yes-no a.replay e

list-untouched : (s : State) (list bits : List ℕ) (place : ℕ) (room : List ℕ) (why : Refusal) → ask_replay s.cols s.rows (lengths_of s) s.quantiser ≡ Err why → (ran_list s list bits place room).state ≡ s
unfolding ran_list ended
list-untouched s list bits place room why e = go (calls list)
  where
    go : (g : Got (List Call)) → (ran_of s g bits place room).state ≡ s
    go (got cs n) = untouched s cs bits place room why e
    go (refused w) = refl

-- ---- the theorem
abbrev pub answer_of : Asked → ℕ → ℕ → ReplayAnswer
answer_of (Ok _) n q = Ok (record { records = n; quantiser = q })
answer_of (Err why) n q = Err why

count_of : (rs : List Record) → length (calls_of rs) ≡ length rs
unfolding calls_of
count_of [] = refl
count_of (r ∷ rs) = ap suc (count_of rs)

pub replay_of_run : (s : State) (list bits : List ℕ) (place : ℕ) (room : List ℕ) → let r = ran_list s list bits place room in
    replayed s (transcript_of r) ≡ record { answer = answer_of (ask_replay s.cols s.rows (lengths_of s) s.quantiser) (length r.accepted) r.state.quantiser; state = r.state }
unfolding replayed replay_of
replay_of_run s list bits place room = go (ask_replay s.cols s.rows (lengths_of s) s.quantiser) refl
  where
    r : Ran
    r = ran_list s list bits place room

    go : (a : Asked) → ask_replay s.cols s.rows (lengths_of s) s.quantiser ≡ a
        → unless_asked a s (replay_of s (records s.cols s.rows (transcript_of r))) ≡ record { answer = answer_of a (length r.accepted) r.state.quantiser; state = r.state }
    go (Err why) e = ap (λ (t : State). record { answer = Err why; state = t }) (sym (list-untouched s list bits place room why e))
    go (Ok u) e =
        let x = list-trace s list bits place room in
        rw (transcript-is x, records-of (path-ranged x.path), path-applied x.path, x.calls, count_of x.rs)
