-- `compensation::window::gather_row` meets its contract: one tap a turn.
use mathlib.Core.Path.{refl}
use native.Mathlib.Omega.{arith}
use lib.ListN.{length-set}
use Rattle.picture.specs.InnerRows.{row}
use Rattle.picture.proofs.Laws.{row_more}
use Rattle.compensation.specs.InnerKernel.{picked}
use Rattle.compensation.proofs.window.gather_row.Goals as goal

pub loop-c-init : goal.loop-c-init
unfolding row
loop-c-init c = (refl, refl)

pub loop-c-preserved : goal.loop-c-preserved
unfolding picked
loop-c-preserved c =
    let a = c.args in
    let l = c.loop-c in
    (simp length-set (omega arith), row_more a.window.now a.at (picked a.plane.now a.line a.columns.now) l.c l.invariant.1 refl)
