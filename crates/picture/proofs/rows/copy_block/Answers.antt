-- `picture::rows::copy_block` meets its contract. Assumes nothing.
use mathlib.Core.Path.{◌≡◌, refl, ◌∙◌}
use native.Mathlib.Omega.{arith}
use Rattle.picture.specs.Picture.{seen, copied}
use Rattle.picture.specs.InnerRows.{rows, run}
use Rattle.picture.proofs.Laws.{rows_more, rows-painted}
use Rattle.picture.proofs.rows.copy_block.Goals.{In-loop-r}
use Rattle.picture.proofs.rows.copy_block.Goals as goal

pub loop-r-init : goal.loop-r-init
unfolding rows
loop-r-init c = (refl, refl)

pub loop-r-preserved : goal.loop-r-preserved
unfolding seen run
loop-r-preserved c = let l = c.loop-r in let b = c.args.b in (omega (arith, c.store_row.auto.plane), rows_more _ _ _ _ _ b.w l.r l.invariant.1 c.store_row.ensures)

pub returns : goal.returns
unfolding copied
returns c = let e : c.loop-r.r ≡ c.args.b.h = omega arith in c.loop-r.invariant.1 ∙ rw e (rows-painted 0 _ _ c.requires.1)
