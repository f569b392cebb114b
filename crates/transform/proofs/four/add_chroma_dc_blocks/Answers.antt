-- One block a turn, at any entry.
use Rattle.std.proofs.Common.{◌≡◌, ◌∙◌, pos, get_or, arith, rules}
use mir.Syntax.{w32}
use mir.Val.{SFits}
use mir.Facts.{to_z-of_z}
use Rattle.transform.specs.Residual.{residual}
use Rattle.transform.specs.InnerResidual.{no_levels}
use Rattle.transform.specs.Added.{added}
use Rattle.transform.proofs.Squares.{none-added, one-added, all-added}
use Rattle.transform.proofs.four.add_chroma_dc_blocks.Goals as goal

pub loop-b-init : goal.loop-b-init
loop-b-init c = λ scale. none-added _ _ _ _ _

pub loop-b-preserved : goal.loop-b-preserved
loop-b-preserved c =
    let b = c.loop-b.b in
    let f : SFits w32 (get_or c.args.dc.now b (pos 0)) = search rules in
    let d = to_z-of_z f in
    let e = c.block.ensures in
    λ scale.
    one-added _ _ _ _ _ b (c.loop-b.invariant scale)
    (c.add_chroma_dc_block.ensures scale ∙ (λ i. added c.loop-b.plane (e i).stride (e i).x (e i).y (residual scale (d i) no_levels)))

pub returns : goal.returns
returns c =
    let e : c.loop-b.b ≡ 4 = omega arith in
    λ scale. c.loop-b.invariant scale ∙ rw e (all-added _ _ _ _ _)
