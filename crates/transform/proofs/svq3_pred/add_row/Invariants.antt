-- One sample a turn; what a turn reads, no turn before it wrote.
use Rattle.std.proofs.Common.{◌≡◌}
use Rattle.picture.specs.InnerRows.{row}
use Rattle.transform.specs.InnerArrays.{reconstructed_at}
use Rattle.transform.proofs.svq3_pred.add_row.Given as goal

abbrev pub invariant-loop-c : goal.invariant-loop-c
invariant-loop-c l = l.sample-items ≡ row l.initial.sample-items 0 (reconstructed_at l.fn.plane l.at l.residual l.from) l.c
