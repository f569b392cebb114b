-- One block a turn.
use Rattle.std.proofs.Common.{◌≡◌, ◌*◌, pos, get_or}
use Rattle.transform.specs.Residual.{placed, residual}
use Rattle.transform.specs.InnerFour.{added_blocks}
use Rattle.transform.proofs.four.add_each.Given as goal

abbrev pub invariant-loop-b : goal.invariant-loop-b
invariant-loop-b l = l.plane ≡ added_blocks l.initial.plane l.s.stride l.s.x l.s.y (λ b. residual l.scale.by (get_or l.dc b (pos 0)) (placed l.levels (16 * b))) l.b
