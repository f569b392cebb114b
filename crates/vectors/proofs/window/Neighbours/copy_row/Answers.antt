-- `vectors::window::Neighbours::copy_row`: each cell that it copies lies on the picture, and shows what the field has there.
use mathlib.Core.Path.{ap, ◌∙◌}
use Prim.Native.Nat.{◌+◌, ◌-◌, ◌*◌}
use native.Mathlib.Omega.{arith}
use lib.ListN.{get_or}
use borrow.Author.Count.{below_more}
use Rattle.vectors.specs.Predict.{cell_at}
use Rattle.vectors.specs.InnerWindow.{shown}
use Rattle.vectors.proofs.Windows.{whole-shows, set_shows, set-other}
use Rattle.vectors.proofs.window.Neighbours.copy_row.Goals as goal

pub loop-c-preserved : goal.loop-c-preserved
unfolding cell_at
loop-c-preserved c =
    let a = c.args in
    let l = c.loop-c in
    let s = c.set_cell.ensures in
    let h = c.requires.whole in
    let m = get_or a.cells.marks.now ((a.y - 1) * (4 * a.cells.grid.cols) + (4 * a.column - 1) + l.c) 0 in
    let other = set-other l.self c.set_cell.new.self (a.at + l.c) m _ s.vectors_after s.marks_after in (
      (λ rows k.
          below_more _ l.c
          (λ d lt. other (a.at + d) (λ e. omega arith) ∙ l.invariant.0 rows k d lt)
          (set_shows l.self _ (a.at + l.c) m _ s.vectors_after s.marks_after (omega arith)
          ∙ ap (shown m) c.at.ensures
          ∙ whole-shows a.cells.grid.cols rows a.cells.mv.now a.cells.marks.now a.column a.y l.c h.0 h.1 h.2 k (omega arith))),
      (λ j lt. other j (λ e. omega arith) ∙ l.invariant.1 j lt),
    )
