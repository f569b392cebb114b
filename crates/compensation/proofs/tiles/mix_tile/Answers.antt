-- `compensation::tiles::mix_tile` meets its contract: a tile for each tap, mixed.
use native.Mathlib.Omega.{arith}
use Rattle.compensation.specs.InnerKernel.{mixed_taps, mixed_block}
use Rattle.compensation.specs.InnerLanes.{mixed_lane}
use Rattle.compensation.proofs.Lanes.{mixed-tile}
use Rattle.compensation.proofs.tiles.mix_tile.Goals as goal

pub returns : goal.returns
unfolding mixed_block mixed_lane
returns g c =
    let a = c.args in
    let m = a.mix in
    mixed-tile (mixed_taps m.weights) m.beside m.second a.src.now m.stride a.from 0 g.row.W g.row.H (omega arith) _ _ _ _ c.mix_lanes.ensures c.load_tile-first.ensures c.load_tile-beside.ensures c.load_tile-second.ensures c.load_tile-last.ensures
