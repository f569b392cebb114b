-- `compensation::kernel::copy_rows` meets its contract: one row a turn.
use mathlib.Core.Path.{◌≡◌, refl, ◌∙◌}
use native.Mathlib.Omega.{arith}
use Rattle.picture.specs.InnerRows.{rows, run}
use Rattle.picture.proofs.Laws.{rows_more, rows-painted}
use Rattle.compensation.specs.Formula.{along, formula}
use Rattle.ints.specs.Z.{when◌then◌else◌}
use Rattle.compensation.specs.InnerKernel.{four_at, four_row, four_block}
use Rattle.compensation.proofs.kernel.copy_rows.Goals.{In-loop-r}
use Rattle.compensation.proofs.kernel.copy_rows.Goals as goal

pub loop-r-init : goal.loop-r-init
unfolding rows
loop-r-init c = (refl, refl)

pub loop-r-preserved : goal.loop-r-preserved
unfolding four_block four_row four_at formula along when◌then◌else◌ run
loop-r-preserved c =
    let a = c.args in
    let l = c.loop-r in
    (omega (arith, c.store_row.auto.plane), rows_more a.dst.now a.b.stride a.b.x a.b.y (four_block (formula 0 0) a.src.now a.stride a.from) a.w l.r l.invariant.1 c.store_row.ensures)

pub returns : goal.returns
returns c =
    let e : c.loop-r.r ≡ c.args.b.h = omega arith in
    c.loop-r.invariant.1 ∙ rw (c.requires.w_value, e) (rows-painted 0 _ _ c.requires.span.1)
