-- `compensation::window::gather_between` meets its contract: one row a turn.
use mathlib.Core.Path.{◌≡◌}
use lib.ListN.{length}
use Rattle.compensation.specs.InnerKernel.{run_at, Wide}
use Rattle.compensation.proofs.window.gather_between.Given as goal

abbrev pub invariant-loop-r : goal.invariant-loop-r
invariant-loop-r l = (length l.window ≡ length l.initial.window) × Wide l.window 0 l.r (run_at l.plane.samples.now l.plane.size.width l.plane.size.height l.by l.from)
