-- `vectors::window::Neighbours::load_cell` shows the cell, or none off the picture, and leaves the other cells.
use mathlib.Core.Path.{refl, sym, ap, ◌∙◌}
use Prim.Native.Nat.{◌+◌, ◌-◌, ◌*◌, ◌<◌, ◌≤◌}
use lib.ListN.{length, get_or}
use Rattle.vectors.specs.Predict.{cell_at}
use Rattle.vectors.specs.InnerWindow.{shown}
use Rattle.vectors.proofs.Windows.{on, on-place, off-missing, on-shows, set_shows, set-other, none_shown, none-other}
use Rattle.vectors.proofs.window.Neighbours.load_cell.Goals.{Else-x-y}
use Rattle.vectors.proofs.window.Neighbours.load_cell.Goals as goal

-- on it: where the cell stands, and that its place lies in the list
stands : (c : Else-x-y) → let a = c.args in (1 ≤ a.x) × (1 ≤ a.y) × (a.x ≤ 4 * a.cells.grid.cols) × ((a.y - 1) * (4 * a.cells.grid.cols) + (a.x - 1) < length a.cells.marks.now)
stands c =
    let a = c.args in
    let o = on a.cells.grid.cols a.x a.y c.if-x-y.false in
    (o.0, o.1, o.2, on-place a.x a.y (4 * a.cells.grid.cols) (length a.cells.marks.now) o.0 o.1 o.2 c.requires.1)

-- off the picture
pub returns-then-x-y : goal.returns-then-x-y
returns-then-x-y c =
    let a = c.args in
    record {
      loaded = λ rows l. none_shown a.self.now _ a.k refl refl c.requires.0 ∙ sym (off-missing a.cells.grid.cols rows a.cells.mv.now a.cells.marks.now a.x a.y c.if-x-y.true);
      others = none-other a.self.now _ a.k refl refl;
    }

pub returns-else-x-y : goal.returns-else-x-y
unfolding cell_at
returns-else-x-y c =
    let a = c.args in
    let t = stands (goal.at.returns-else-x-y c).Else-x-y in
    let m = get_or a.cells.marks.now ((a.y - 1) * (4 * a.cells.grid.cols) + (a.x - 1)) 0 in
    let s = c.set_cell.ensures in
    record {
      loaded = λ rows l.
          set_shows a.self.now _ a.k m _ s.vectors_after s.marks_after c.requires.0
          ∙ ap (shown m) c.at.ensures
          ∙ sym (on-shows a.cells.grid.cols rows a.cells.mv.now a.cells.marks.now a.x a.y t.0 t.1 t.2 l);
      others = set-other a.self.now _ a.k m _ s.vectors_after s.marks_after;
    }
