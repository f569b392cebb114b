-- `compensation::window::gather_each` meets its contract: one row of taps a turn.
use mathlib.Core.Path.{◌≡◌}
use lib.ListN.{length}
use Rattle.compensation.specs.InnerKernel.{picked_at, Wide}
use Rattle.compensation.proofs.window.gather_each.Given as goal

abbrev pub invariant-loop-r : goal.invariant-loop-r
invariant-loop-r l = (length l.window ≡ length l.initial.window) × Wide l.window 0 l.r (picked_at l.plane.samples.now l.columns l.plane.size.width l.plane.size.height l.by)
