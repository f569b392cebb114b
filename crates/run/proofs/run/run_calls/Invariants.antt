-- `run::run::run_calls` meets its contract. The loop's invariant: what the calls that are left will leave is what the list leaves.
use mathlib.Core.Path.{◌≡◌}
use Prim.Native.Nat.{◌-◌}
use lib.ListN.{length}
use Rattle.std.specs.Prelude.{Ok}
use Rattle.picture.specs.InnerLent.{contents, with_contents}
use Rattle.macroblock.specs.InnerSource.{state_of_source}
use Rattle.run.specs.InnerLeft.{calls_left}
use Rattle.run.proofs.Turns.{Going}
use Rattle.run.proofs.run.run_calls.Given as goal

abbrev pub invariant-loop-at : goal.invariant-loop-at
invariant-loop-at l =
    (l.pic ≡ with_contents l.initial.pic (contents l.pic)) × (length l.transcript ≡ length l.initial.transcript) × (l.report.stop ≡ Ok tt)
    × Going (calls_left (state_of_source l.source l.fn.cursor.quantiser (contents l.initial.pic)) l.list l.source.bits.now l.fn.cursor.place l.initial.transcript) (state_of_source l.source l.report.quantiser (contents l.pic)) l.list l.source.bits.now l.fn.cursor.place l.at l.report.place l.transcript l.report.fill l.report.accepted l.report.consumed

abbrev pub decreases-loop-at : goal.decreases-loop-at
decreases-loop-at l =
    length l.list - l.at
