-- One block a turn.
use Rattle.std.proofs.Common.{◌≡◌, ◌∙◌, ◌*◌, pos, get_or, arith, rules}
use mir.Syntax.{w32}
use mir.Val.{SFits}
use mir.Facts.{to_z-of_z}
use Rattle.transform.specs.Residual.{residual}
use Rattle.transform.specs.Added.{added}
use Rattle.transform.proofs.Slices.{placed-rest}
use Rattle.transform.proofs.Squares.{none-added, one-added, all-added}
use Rattle.transform.proofs.four.add_each.Goals as goal

pub loop-b-init : goal.loop-b-init
loop-b-init c = none-added _ _ _ _ _

pub loop-b-preserved : goal.loop-b-preserved
loop-b-preserved c =
    let a = c.args in
    let b = c.loop-b.b in
    let f : SFits w32 (get_or a.dc.now b (pos 0)) = search rules in
    let d = to_z-of_z f in
    let e = c.block.ensures in
    let l = placed-rest (16 * b) a.levels.now in
    one-added _ _ _ _ _ b c.loop-b.invariant
    (c.add_block.ensures ∙ (λ i. added c.loop-b.plane (e i).stride (e i).x (e i).y (residual a.scale.by (d i) (l i))))

pub returns : goal.returns
returns c =
    let a = c.args in
    let e : c.loop-b.b ≡ 4 = omega arith in
    c.loop-b.invariant ∙ rw e (all-added _ _ _ _ _)
