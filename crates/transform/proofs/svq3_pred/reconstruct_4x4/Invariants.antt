-- One row a turn.
use Rattle.std.proofs.Common.{◌≡◌}
use Rattle.picture.specs.InnerRows.{rows}
use Rattle.transform.specs.Residual.{placed}
use Rattle.transform.specs.Added.{reconstructed}
use Rattle.transform.proofs.svq3_pred.reconstruct_4x4.Given as goal

abbrev pub invariant-loop-j : goal.invariant-loop-j
invariant-loop-j l = l.plane ≡ rows l.initial.plane l.s.stride l.s.x l.s.y (reconstructed l.initial.plane l.s.stride l.s.x l.s.y (placed l.residual 0)) 4 l.j
