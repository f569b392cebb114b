-- `vectors::window::Neighbours::load` loads five rows: after r of them, the window shows the first r.
use mathlib.Core.Path.{◌≡◌}
use Prim.Native.Nat.{ℕ, ◌+◌, ◌*◌, ◌<◌}
use Rattle.picture.specs.InnerField.{lent_field}
use Rattle.vectors.specs.Predict.{above_left_of}
use Rattle.vectors.specs.InnerWindow.{shown_at}
use Rattle.vectors.proofs.window.Neighbours.load.Given as goal

abbrev pub invariant-loop-r : goal.invariant-loop-r
invariant-loop-r l =
    (q : ℕ) → q < l.r → (c : ℕ) → c < 6 → shown_at l.self (q * 6 + c) ≡ above_left_of (lent_field l.cells.grid.cols l.cells.grid.rows l.cells.mv.now l.cells.marks.now) (4 * l.column + c) (4 * l.row + q)
