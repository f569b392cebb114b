-- One row a turn.
use Rattle.std.proofs.Common.{◌≡◌, ◌∙◌, refl, arith}
use Rattle.picture.specs.InnerRows.{rows}
use Rattle.picture.proofs.Laws.{rows-painted}
use Rattle.transform.specs.Added.{added}
use Rattle.transform.proofs.Laws.{row-added}
use Rattle.transform.proofs.svq3_pred.reconstruct_4x4.Goals.{In-loop-j}
use Rattle.transform.proofs.svq3_pred.reconstruct_4x4.Goals as goal

pub loop-j-init : goal.loop-j-init
unfolding rows
loop-j-init c = refl

pub loop-j-preserved : goal.loop-j-preserved
loop-j-preserved c =
    let s = c.args.s in
    row-added s.stride s.x s.y c.loop-j.j c.args.plane.now c.args.residual c.requires.0.across c.loop-j.invariant c.add_row.ensures

pub returns : goal.returns
unfolding added
returns c =
    let e : c.loop-j.j ≡ 4 = omega arith in
    c.loop-j.invariant ∙ rw e (rows-painted 0 c.args.plane.now _ c.requires.0)
