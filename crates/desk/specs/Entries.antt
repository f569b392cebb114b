-- What each entry answers, and what it leaves in the slices that it may change.
-- Assumes nothing.
use Rattle.std.specs.Prelude.{List, ℕ, ltb, ℤ, length}
use Rattle.std.proofs.lemmas.List.Edits.{sets}
use Rattle.ints.specs.Z.{when◌then◌else◌}
use Rattle.state.specs.declared.Call.{Call}
use Rattle.state.specs.State.{State}
use Rattle.macroblock.specs.Decode.{Outcome, decoded}
use Rattle.macroblock.specs.Entry.{LentMut}
use Rattle.run.specs.Left.{Left, list_left}
use Rattle.replay.specs.Replay.{Replay, replayed}
use Rattle.desk.specs.Answer.{output_room, done_code}
use Rattle.desk.specs.Counts.{mb_counts, run_counts, replay_counts}

-- what is lent to be changed; a replay changes no transcript
pub record Slices : Type 0 where
  pub y : List ℕ
  pub cb : List ℕ
  pub cr : List ℕ
  pub mv : List ℤ
  pub marks : List ℕ
  pub transcript : List ℕ
  pub counts : List ℕ

pub record Ended : Type 0 where
  pub code : ℤ
  pub slices : Slices

abbrev pub slices_of : List ℕ → List ℕ → List ℕ → List ℤ → List ℕ → List ℕ → List ℕ → Slices
slices_of y cb cr mv marks transcript counts = record { y = y; cb = cb; cr = cr; mv = mv; marks = marks; transcript = transcript; counts = counts }

-- at entry and at exit, in an `ensures`
abbrev pub slices_before : LentMut (List ℕ) → LentMut (List ℕ) → LentMut (List ℕ) → LentMut (List ℤ) → LentMut (List ℕ) → LentMut (List ℕ) → LentMut (List ℕ) → Slices
slices_before y cb cr mv marks transcript counts = slices_of y.entry.now cb.entry.now cr.entry.now mv.entry.now marks.entry.now transcript.entry.now counts.entry.now

abbrev pub slices_after : LentMut (List ℕ) → LentMut (List ℕ) → LentMut (List ℕ) → LentMut (List ℤ) → LentMut (List ℕ) → LentMut (List ℕ) → LentMut (List ℕ) → Slices
slices_after y cb cr mv marks transcript counts = slices_of y.exit.now cb.exit.now cr.exit.now mv.exit.now marks.exit.now transcript.exit.now counts.exit.now

-- as the code has it
abbrev pub ended : ℤ → Slices → Ended
ended code s = record { code = code; slices = s }

abbrev pub call_of : ℕ → ℕ → ℕ → Call
call_of column row mode = record { column = column; row = row; mode = mode }

-- an answer, the state, and the counts, which begin with those written
abbrev pub telling : ℤ → State → List ℕ → List ℕ → List ℕ → Ended
telling code s transcript counts written = ended code (slices_of s.y s.cb s.cr s.mv s.marks transcript (sets counts 0 written))

-- fewer counts than n: nothing is done
abbrev pub unless_short : ℕ → Slices → Ended → Ended
unless_short n s done = when ltb (length s.counts) n then ended output_room s else done

abbrev pub mb_telling : ℕ → ℕ → ℕ → List ℕ → Outcome → Ended
mb_telling place quantiser fill counts o = telling (done_code o.answer) o.state o.transcript counts (mb_counts o.answer place quantiser fill)

abbrev pub run_telling : List ℕ → Left → Ended
run_telling counts l = telling (done_code l.report.stop) l.state l.transcript counts (run_counts l.report)

abbrev pub replay_telling : ℕ → List ℕ → List ℕ → Replay → Ended
replay_telling quantiser transcript counts p = telling (done_code p.answer) p.state transcript counts (replay_counts p.answer quantiser)

unfoldable pub mb_ended : State → Slices → Call → List ℕ → ℕ → ℕ → Ended
mb_ended start s call bits place fill = unless_short 5 s (mb_telling place start.quantiser fill s.counts (decoded start call bits place s.transcript fill))

unfoldable pub run_ended : State → Slices → List ℕ → List ℕ → ℕ → Ended
run_ended start s calls bits place = unless_short 5 s (run_telling s.counts (list_left start calls bits place s.transcript))

unfoldable pub replay_ended : State → Slices → Ended
replay_ended start s = unless_short 2 s (replay_telling start.quantiser s.transcript s.counts (replayed start s.transcript))
