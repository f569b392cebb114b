-- One column a turn.
use Rattle.transform.specs.InnerPasses.{Columns}
use Rattle.transform.proofs.exact.columns.Given as goal

abbrev pub invariant-loop-c : goal.invariant-loop-c
invariant-loop-c l = Columns l.rows l.dc l.c l.r
