-- `apply::svq3_frame::compensate_luma` meets its contract: i partitions are in the plane.
use mathlib.Core.Path.{◌≡◌}
use mathlib.Core.Bool.{false}
use Rattle.apply.specs.Moved.{unit, moved_up_to}
use Rattle.apply.proofs.svq3_frame.compensate_luma.Given as goal

abbrev pub invariant-loop-i : goal.invariant-loop-i
invariant-loop-i l = l.pic ≡ moved_up_to l.i (unit false) l.mb.grid.cols l.mb.grid.rows l.reference l.mb.call l.vectors l.initial.pic
