-- `apply::svq3_picture::store_partitions`: after r turns, r rows of cells have their own partitions' vectors, and marks 1.
use mathlib.Core.Path.{◌≡◌, refl, ◌∙◌}
use Prim.Native.Nat.{◌*◌}
use native.Mathlib.Omega.{arith}
use lib.IntN.{pos}
use lib.ListN.{length}
use Rattle.picture.specs.Painted.{Inside}
use Rattle.picture.specs.Picture.{always}
use Rattle.picture.specs.InnerRows.{rows}
use Rattle.picture.proofs.Laws.{Row, inside-row, rows_more, rows-painted}
use Rattle.picture.specs.InnerField.{lent_field}
use Rattle.vectors.proofs.Following.{macroblock-cells}
use Rattle.vectors.proofs.Storing.{pairs-inside}
use Rattle.apply.proofs.Fields.{owns-more}
use Rattle.apply.proofs.Tiles.{tiled-numbers, tiled-marks}
use Rattle.apply.proofs.svq3_picture.store_partitions.Goals.{In-loop-r, Start}
use Rattle.apply.proofs.svq3_picture.store_partitions.Goals as goal

-- the macroblock lies in the picture
cells : (s : Start) → Inside (4 * s.args.mb.grid.cols) (4 * s.args.mb.call.column) (4 * s.args.mb.call.row) 4 4 (length s.args.marks.now)
cells s = macroblock-cells s.args.mb.within s.requires.mv_len.1

-- and so does the row of a turn
lies : (c : In-loop-r) → let a = c.args in Row (4 * a.mb.grid.cols) (4 * a.mb.call.column) (4 * a.mb.call.row) 4 c.loop-r.r (length a.marks.now)
lies c = inside-row (cells c.before.before.before.before.before.before.before) c.loop-r-test.true

pub loop-r-init : goal.loop-r-init
unfolding rows
loop-r-init c = (refl, refl)

pub store_row-requires : goal.store_row-requires
store_row-requires c =
    omega (arith, lies (goal.at.store_row-requires c).In-loop-r, c.requires.mv_len.0, c.requires.mv_len.1, c.loop-r.auto.mv)

pub loop-r-preserved : goal.loop-r-preserved
unfolding always
loop-r-preserved c =
    let l = c.loop-r in (
      owns-more _ _ _ _ _ _ l.r l.invariant.0 c.store_row.ensures,
      rows_more _ _ _ _ (always 1) _ l.r l.invariant.1 c.mark_row.ensures,
    )

pub returns : goal.returns
returns c =
    let a = c.args in
    let i = c.loop-r.invariant in
    let f = lent_field a.mb.grid.cols a.mb.grid.rows a.mv.now a.marks.now in
    let e : c.loop-r.r ≡ 4 = omega arith in record { mv_after = i.0 ∙ rw e (rows-painted (pos 0) _ _ (pairs-inside (omega (arith, c.requires.mv_len.0, c.requires.mv_len.1)) (cells (goal.at.returns c).Start))) ∙ tiled-numbers a.mb.call a.vectors.now f c.args.mb.mode c.requires.some c.owners-whose.result c.owners-whose.ensures; marks_after = i.1 ∙ rw e (rows-painted 0 _ _ (cells (goal.at.returns c).Start)) ∙ tiled-marks a.mb.call a.vectors.now f c.args.mb.mode c.requires.some }

pub overflow_mul-stride : goal.overflow_mul-stride
overflow_mul-stride c = omega (arith, c.args.mb.within.wide)

pub owners-whose-requires : goal.owners-whose-requires
owners-whose-requires c = c.args.mb.mode

pub overflow_add-at : goal.overflow_add-at
overflow_add-at c = omega (arith, lies c)

pub overflow_mul-at : goal.overflow_mul-at
overflow_mul-at c = omega (arith, lies c)

pub overflow_add-at-in-loop-r : goal.overflow_add-at-in-loop-r
overflow_add-at-in-loop-r c = omega (arith, lies c)

pub overflow_mul-at-in-loop-r : goal.overflow_mul-at-in-loop-r
overflow_mul-at-in-loop-r c = omega (arith, lies (goal.at.overflow_mul-at-in-loop-r c).In-loop-r)

pub overflow_mul-r : goal.overflow_mul-r
overflow_mul-r c = omega arith

pub overflow_shr-whose : goal.overflow_shr-whose
overflow_shr-whose c = omega arith

pub mark_row-requires : goal.mark_row-requires
mark_row-requires c = omega (arith, lies (goal.at.mark_row-requires c).In-loop-r)
