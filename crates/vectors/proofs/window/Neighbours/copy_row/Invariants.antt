-- `vectors::window::Neighbours::copy_row`: after c of its six cells, they show the first c, and the cells before show what they did.
use mathlib.Core.Path.{◌≡◌}
use Prim.Native.Nat.{ℕ, ◌+◌, ◌*◌, ◌<◌, ◌≤◌}
use Rattle.picture.specs.InnerField.{lent_field}
use Rattle.vectors.specs.Predict.{above_left_of}
use Rattle.vectors.specs.InnerWindow.{shown_at}
use Rattle.vectors.proofs.window.Neighbours.copy_row.Given as goal

abbrev pub invariant-loop-c : goal.invariant-loop-c
invariant-loop-c l =
    ((rows : ℕ) → l.y ≤ 4 * rows → (d : ℕ) → d < l.c → shown_at l.self (l.at + d) ≡ above_left_of (lent_field l.cells.grid.cols rows l.cells.mv.now l.cells.marks.now) (4 * l.column + d) l.y)
    × ((j : ℕ) → j < l.at → shown_at l.self j ≡ shown_at l.initial.self j)
