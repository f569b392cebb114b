-- `compensation::kernel::mix_row` meets its contract: one sample a turn.
use mathlib.Core.Path.{◌≡◌, refl, ap, ◌∙◌}
use native.Mathlib.Nat.{zero-add}
use native.Mathlib.Omega.{arith}
use Rattle.picture.specs.InnerRows.{row}
use Rattle.picture.proofs.Laws.{row_more}
use Rattle.compensation.specs.InnerKernel.{paired_at, paired_row, mixed_row}
use Rattle.compensation.proofs.Lanes.{part-row, part-size}
use Rattle.compensation.proofs.kernel.mix_row.Goals as goal

pub loop-c-init : goal.loop-c-init
unfolding row
loop-c-init c = refl

pub loop-c-preserved : goal.loop-c-preserved
unfolding mixed_row paired_row paired_at
loop-c-preserved c =
    let a = c.args in
    let l = c.loop-c in
    rw zero-add at (row_more _ 0 (mixed_row a.mix a.src.now a.from) l.c l.invariant c.sample.ensures)

pub returns : goal.returns
returns c =
    let a = c.args in
    let v = mixed_row a.mix a.src.now a.from in
    let e : c.loop-c.c ≡ a.n = omega (arith, part-size a.to a.n a.dst.now c.requires.0) in
    part-row a.dst.now a.to a.n v c.requires.0 (c.loop-c.invariant ∙ ap (row _ 0 v) e)
