-- `compensation::tiles::store_lanes` meets its contract: one lane a turn.
use mathlib.Core.Path.{◌≡◌}
use lib.ListN.{length}
use Rattle.compensation.specs.InnerLanes.{tiled}
use Rattle.compensation.proofs.Lanes.{cells}
use Rattle.compensation.proofs.tiles.store_lanes.Given as goal

abbrev pub invariant-loop-k : goal.invariant-loop-k
invariant-loop-k g l = (length l.dst ≡ length l.initial.dst) × (l.dst ≡ cells l.initial.dst l.stride l.x l.y (tiled l.fn.t l.at g.row.W) g.row.W l.k)
