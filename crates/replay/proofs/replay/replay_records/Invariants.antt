-- `replay::replay::replay_records`. The loop's invariant: what the records that are left will leave is what all of them leave.
use mathlib.Core.Path.{◌≡◌}
use Prim.Native.Nat.{◌-◌}
use lib.ListN.{length}
use Rattle.picture.specs.InnerLent.{contents, with_contents}
use Rattle.state.specs.InnerSizes.{AllSized, lent_lengths}
use Rattle.macroblock.specs.InnerSource.{state_by}
use Rattle.replay.specs.InnerRecorded.{all_left}
use Rattle.replay.proofs.Records.{Replaying}
use Rattle.replay.proofs.replay.replay_records.Given as goal

abbrev pub invariant-loop-at : goal.invariant-loop-at
invariant-loop-at l =
    (l.pic ≡ with_contents l.initial.pic (contents l.pic)) × AllSized l.frame.grid.cols l.frame.grid.rows (lent_lengths (contents l.pic) l.reference)
    × Replaying (all_left (state_by l.frame l.quantiser l.reference (contents l.initial.pic)) l.bytes) (state_by l.frame l.q l.reference (contents l.pic)) l.bytes l.at

abbrev pub decreases-loop-at : goal.decreases-loop-at
decreases-loop-at l = length l.bytes - l.at
