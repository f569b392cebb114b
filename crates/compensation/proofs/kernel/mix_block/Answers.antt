-- `compensation::kernel::mix_block` meets its contract: one row a turn.
use mathlib.Core.Path.{◌≡◌, refl, ◌∙◌}
use native.Mathlib.Omega.{arith}
use Rattle.picture.specs.InnerRows.{rows}
use Rattle.picture.proofs.Laws.{rows_more, rows-painted}
use Rattle.compensation.specs.InnerKernel.{paired_block, mixed_row, mixed_block}
use Rattle.compensation.proofs.kernel.mix_block.Goals.{In-loop-r}
use Rattle.compensation.proofs.kernel.mix_block.Goals as goal

pub loop-r-init : goal.loop-r-init
unfolding rows
loop-r-init c = (refl, refl)

pub loop-r-preserved : goal.loop-r-preserved
unfolding mixed_block mixed_row paired_block
loop-r-preserved c =
    let a = c.args in
    let l = c.loop-r in
    (omega (arith, c.mix_row.auto.dst), rows_more a.dst.now a.b.stride a.b.x a.b.y (mixed_block a.mix a.src.now a.from) a.b.w l.r l.invariant.1 c.mix_row.ensures)

pub returns : goal.returns
returns c =
    let e : c.loop-r.r ≡ c.args.b.h = omega arith in
    c.loop-r.invariant.1 ∙ rw e (rows-painted 0 _ _ c.requires.0)
