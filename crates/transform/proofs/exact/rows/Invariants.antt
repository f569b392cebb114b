-- One row a turn.
use Rattle.transform.specs.InnerPasses.{Rows}
use Rattle.transform.proofs.exact.rows.Given as goal

abbrev pub invariant-loop-i : goal.invariant-loop-i
invariant-loop-i l = Rows l.scale.by l.levels l.i l.sums-items
