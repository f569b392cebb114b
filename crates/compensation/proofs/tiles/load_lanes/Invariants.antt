-- `compensation::tiles::load_lanes` meets its contract: one lane a turn.
use mathlib.Core.Path.{◌≡◌}
use Rattle.picture.specs.InnerRows.{row}
use Rattle.compensation.specs.InnerLanes.{lane_at}
use Rattle.compensation.proofs.tiles.load_lanes.Given as goal

abbrev pub invariant-loop-k : goal.invariant-loop-k
invariant-loop-k g l = l.lane-items ≡ row l.initial.lane-items 0 (lane_at l.src l.from l.stride g.row.W) l.k
