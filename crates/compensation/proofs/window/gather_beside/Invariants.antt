-- `compensation::window::gather_beside` meets its contract: one row a turn, in two halves that lie apart.
use mathlib.Core.Path.{◌≡◌}
use Prim.Native.Nat.{◌-◌}
use lib.ListN.{length}
use Rattle.compensation.specs.InnerKernel.{run_at, edge_at, Wide}
use Rattle.compensation.proofs.window.gather_beside.Given as goal

abbrev pub invariant-loop-r : goal.invariant-loop-r
invariant-loop-r l = (length l.window ≡ length l.initial.window) × Wide l.window l.to l.r (run_at l.plane.samples.now l.plane.size.width l.plane.size.height l.by l.from) × Wide l.window (17 - l.to) l.r (edge_at l.plane.samples.now l.plane.size.width l.plane.size.height l.by l.edge)
