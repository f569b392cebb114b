-- Each lane mixed.
use Rattle.std.proofs.Common.{rules}
use Rattle.picture.specs.InnerRows.{row}
use Rattle.compensation.specs.InnerLanes.{four_lane, mixed_lane}
use Rattle.ints.proofs.Made.{made-by}
use Rattle.compensation.proofs.tiles.mix_lanes.Goals as goal

pub returns : goal.returns
unfolding row mixed_lane four_lane
returns c =
    let a = c.args in
    made-by _ (mixed_lane a.mix a.first a.beside a.second a.last) _ (λ i y q h. search rules) 0 16 c.from_fn.ensures.items
