-- `vectors::svq3_frame::mark_macroblock` paints zeros and marks: after r turns, r rows of each.
use mathlib.Core.Path.{◌≡◌, refl, ◌∙◌}
use Prim.Native.Nat.{◌+◌, ◌*◌}
use native.Mathlib.Omega.{arith}
use lib.IntN.{pos}
use Rattle.picture.specs.Picture.{always, filled}
use Rattle.picture.specs.InnerRows.{row, rows}
use Rattle.picture.proofs.Laws.{rows_more, rows-painted, inside-row}
use Rattle.vectors.specs.Stored.{stored_vectors, stored_marks}
use Rattle.vectors.proofs.Storing.{filled-row, pair_same, pairs-more, pairs-inside}
use Rattle.vectors.proofs.svq3_frame.mark_macroblock.Goals as goal

pub loop-r-init : goal.loop-r-init
unfolding rows
loop-r-init c = (refl, refl)

pub loop-r-preserved : goal.loop-r-preserved
unfolding always
loop-r-preserved c =
    let a = c.args in
    let l = c.loop-r in
    let at = 2 * ((4 * a.row + l.r) * (4 * a.grid.cols) + 4 * a.column) in
    let zeros = filled-row (pos 0) l.mv at 8 (pos 0) (omega arith) (c.fill.ensures.after (λ y e. e)) (omega (arith, c.requires.1, l.auto.mv, inside-row {r = l.r} c.requires.2 (omega (arith, c.loop-r-test.true)))) in (
      pairs-more _ _ _ _ _ _ 4 l.r l.invariant.0 (zeros ∙ λ i. row l.mv at (λ k. pair_same (pos 0) 0 k i) 8),
      rows_more _ _ _ _ (always 1) _ l.r l.invariant.1 c.mark_row.ensures,
    )

pub returns-clause-mv_after : goal.returns-clause-mv_after
unfolding stored_vectors
returns-clause-mv_after c =
    let e : c.loop-r.r ≡ 4 = omega arith in
    c.loop-r.invariant.0 ∙ rw e (rows-painted (pos 0) _ _ (pairs-inside c.requires.1 c.requires.2))

pub returns-clause-marks_after : goal.returns-clause-marks_after
unfolding stored_marks filled
returns-clause-marks_after c =
    let e : c.loop-r.r ≡ 4 = omega arith in
    c.loop-r.invariant.1 ∙ rw e (rows-painted 0 _ _ c.requires.2)
