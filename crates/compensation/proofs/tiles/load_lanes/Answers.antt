-- `compensation::tiles::load_lanes` meets its contract: one lane a turn.
use mathlib.Core.Path.{◌≡◌, refl, ap, ◌∙◌}
use Prim.Native.Nat.{◌*◌}
use native.Mathlib.Nat.{zero-add}
use native.Mathlib.Omega.{arith}
use Rattle.picture.specs.InnerRows.{row}
use Rattle.picture.proofs.Laws.{row_more}
use Rattle.compensation.specs.InnerLanes.{lane_of, lane_at}
use Rattle.compensation.proofs.Lanes.{part-row, part-size}
use Rattle.compensation.proofs.tiles.load_lanes.Goals as goal

pub loop-k-init : goal.loop-k-init
unfolding row
loop-k-init g c = refl

pub loop-k-preserved : goal.loop-k-preserved
unfolding lane_at lane_of
loop-k-preserved g c =
    let a = c.args in
    let l = c.loop-k in
    rw zero-add at (row_more _ 0 (lane_at a.src.now a.from a.stride g.row.W) l.k l.invariant refl)

pub returns : goal.returns
returns g c =
    let a = c.args in
    let n = g.row.W * g.row.H in
    let v = lane_at a.src.now a.from a.stride g.row.W in
    let e : c.loop-k.k ≡ n = omega (arith, part-size a.at n a.t.now (omega arith)) in
    part-row a.t.now a.at n v (omega arith) (c.loop-k.invariant ∙ ap (row _ 0 v) e)
