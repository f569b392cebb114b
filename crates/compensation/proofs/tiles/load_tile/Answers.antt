-- `compensation::tiles::load_tile` meets its contract: the first lanes.
use native.Mathlib.Omega.{arith}
use lib.ListN.{replicate}
use Rattle.compensation.proofs.Lanes.{loaded}
use Rattle.compensation.proofs.tiles.load_tile.Goals as goal

pub returns : goal.returns
returns g c =
    let a = c.args in
    loaded (replicate 16 0) a.src.now 0 a.from a.stride g.row.W g.row.H c.load_lanes.ensures (omega arith)
