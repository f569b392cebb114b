-- Each entry by its test of the counts' length: over plain lists and numbers.
-- Assumes nothing.
use mathlib.Core.Path.{◌≡◌, ap, ◌∙◌}
use mathlib.Core.List.{List}
use Prim.Native.Nat.{ℕ, ◌≤◌, ◌<◌}
use borrow.Author.Tests.{lt-ltb, le-ltb}
use lib.IntN.{ℤ}
use lib.ListN.{length}
use lib.Seq.{sets}
use Rattle.ints.specs.Z.{when◌then◌else◌}
use Rattle.state.specs.declared.Call.{Call}
use Rattle.state.specs.State.{State}
use Rattle.macroblock.specs.Decode.{decoded}
use Rattle.macroblock.specs.Entry.{state_of, mb_left, quantiser_by}
use Rattle.state.specs.declared.Frame.{Frame}
use Rattle.macroblock.specs.Decode.{MbAnswer}
use Rattle.run.specs.Left.{run_left, list_left}
use Rattle.run.specs.declared.Report.{Report}
use Rattle.replay.specs.Replay.{quantiser_of, replay_left, replayed}
use Rattle.replay.specs.Replay.{ReplayAnswer}
use Rattle.desk.specs.Answer.{output_room, done_code}
use Rattle.desk.specs.Counts.{mb_counts, run_counts, replay_counts}
use Rattle.desk.specs.Entries.{Slices, Ended, slices_of, ended, unless_short, mb_telling, run_telling, replay_telling, mb_ended, run_ended, replay_ended}

too_short : (n : ℕ) (s : Slices) (done : Ended) → length s.counts < n → ended output_room s ≡ unless_short n s done
unfolding when◌then◌else◌
too_short n s done h = rw (lt-ltb _ _ h)

long-enough : (n : ℕ) (s : Slices) (done : Ended) → n ≤ length s.counts → done ≡ unless_short n s done
unfolding when◌then◌else◌
long-enough n s done h = rw (le-ltb _ _ h)

-- the state that the slices make
abbrev start_of : Frame → ℕ → List ℕ → List ℕ → List ℕ → Slices → State
start_of frame quantiser ry rcb rcr s = state_of frame quantiser ry rcb rcr s.y s.cb s.cr s.mv s.marks

module _ (frame : Frame) (q : ℕ) (ry rcb rcr : List ℕ) (s : Slices) where
  abbrev start : State
  start = start_of frame q ry rcb rcr s

  pub mb-short : (call : Call) (bits : List ℕ) (place fill : ℕ) → length s.counts < 5 → ended output_room s ≡ mb_ended start s call bits place fill
  unfolding mb_ended
  mb-short call bits place fill h = too_short 5 s _ h

  pub run_short : (calls bits : List ℕ) (place : ℕ) → length s.counts < 5 → ended output_room s ≡ run_ended start s calls bits place
  unfolding run_ended
  run_short calls bits place h = too_short 5 s _ h

  pub replay-short : length s.counts < 2 → ended output_room s ≡ replay_ended start s
  unfolding replay_ended
  replay-short h = too_short 2 s _ h

  module _ (f : Frame) (is : f ≡ frame) (y cb cr : List ℕ) (mv : List ℤ) (marks transcript counts : List ℕ) (code : ℤ) where
    pub mb-done : (call : Call) (bits : List ℕ) (place fill : ℕ) (answer : MbAnswer) → 5 ≤ length s.counts
        → mb_left answer (state_of f (quantiser_by q answer) ry rcb rcr y cb cr mv marks) transcript ≡ decoded (start_of f q ry rcb rcr s) call bits place s.transcript fill
        → code ≡ done_code answer
        → counts ≡ sets s.counts 0 (mb_counts answer place q fill)
        → ended code (slices_of y cb cr mv marks transcript counts) ≡ mb_ended start s call bits place fill
    unfolding mb_ended
    mb-done call bits place fill answer enough e told written =
        (λ i. ended (told i) (slices_of y cb cr mv marks transcript (written i)))
        ∙ ap (mb_telling place q fill s.counts) (e ∙ ap (λ (g : Frame). decoded (start_of g q ry rcb rcr s) call bits place s.transcript fill) is)
        ∙ long-enough 5 s _ enough

    pub run-done : (calls bits : List ℕ) (place : ℕ) (r : Report) → 5 ≤ length s.counts
        → run_left r (state_of f r.quantiser ry rcb rcr y cb cr mv marks) transcript ≡ list_left (start_of f q ry rcb rcr s) calls bits place s.transcript
        → code ≡ done_code r.stop
        → counts ≡ sets s.counts 0 (run_counts r)
        → ended code (slices_of y cb cr mv marks transcript counts) ≡ run_ended start s calls bits place
    unfolding run_ended
    run-done calls bits place r enough e told written =
        (λ i. ended (told i) (slices_of y cb cr mv marks transcript (written i)))
        ∙ ap (run_telling s.counts) (e ∙ ap (λ (g : Frame). list_left (start_of g q ry rcb rcr s) calls bits place s.transcript) is)
        ∙ long-enough 5 s _ enough

    pub replay-done : (r : ReplayAnswer) → 2 ≤ length s.counts
        → replay_left r (state_of f (quantiser_of q r) ry rcb rcr y cb cr mv marks) ≡ replayed (start_of f q ry rcb rcr s) s.transcript
        → code ≡ done_code r
        → counts ≡ sets s.counts 0 (replay_counts r q)
        → ended code (slices_of y cb cr mv marks s.transcript counts) ≡ replay_ended start s
    unfolding replay_ended
    replay-done r enough e told written =
        (λ i. ended (told i) (slices_of y cb cr mv marks s.transcript (written i)))
        ∙ ap (replay_telling q s.transcript s.counts) (e ∙ ap (λ (g : Frame). replayed (start_of g q ry rcb rcr s) s.transcript) is)
        ∙ long-enough 2 s _ enough
