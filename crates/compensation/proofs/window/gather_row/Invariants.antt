-- `compensation::window::gather_row` meets its contract: one tap a turn.
use mathlib.Core.Path.{◌≡◌}
use lib.ListN.{length}
use Rattle.picture.specs.InnerRows.{row}
use Rattle.compensation.specs.InnerKernel.{picked}
use Rattle.compensation.proofs.window.gather_row.Given as goal

abbrev pub invariant-loop-c : goal.invariant-loop-c
invariant-loop-c l = (length l.window ≡ length l.initial.window) × (l.window ≡ row l.initial.window l.at (picked l.plane l.line l.columns) l.c)
