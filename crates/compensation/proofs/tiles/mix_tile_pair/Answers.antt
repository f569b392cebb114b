-- `compensation::tiles::mix_tile_pair` meets its contract: a tile for each tap, mixed.
use Prim.Native.Nat.{◌*◌}
use native.Mathlib.Omega.{arith}
use Rattle.compensation.specs.InnerKernel.{mixed_taps, mixed_block}
use Rattle.compensation.specs.InnerLanes.{mixed_lane}
use Rattle.compensation.proofs.Lanes.{mixed-tile}
use Rattle.compensation.proofs.tiles.mix_tile_pair.Goals as goal

pub returns : goal.returns
unfolding mixed_block mixed_lane
returns g c =
    let a = c.args in
    let m = a.mix in
    let w = g.row.W in
    let h = g.row.H in
    let p = c.load_both-first.ensures in
    let q = c.load_both-beside.ensures in
    let u = c.load_both-second.ensures in
    let v = c.load_both-last.ensures in (
      mixed-tile (mixed_taps m.weights) m.beside m.second a.rcb.now m.stride a.from 0 w h (omega arith) _ _ _ _ c.mix_lanes.ensures p.0 q.0 u.0 v.0,
      mixed-tile (mixed_taps m.weights) m.beside m.second a.rcr.now m.stride a.from (w * h) w h (omega arith) _ _ _ _ c.mix_lanes.ensures p.1 q.1 u.1 v.1,
    )
