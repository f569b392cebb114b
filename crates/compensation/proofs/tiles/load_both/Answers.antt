-- `compensation::tiles::load_both` meets its contract: the lanes of the first plane are left as they are.
use mathlib.Core.Path.{◌≡◌, ap, ◌∙◌}
use Prim.Native.Nat.{◌*◌}
use native.Mathlib.Omega.{arith}
use lib.ListN.{length, replicate}
use Rattle.picture.proofs.Laws.{row-length}
use Rattle.compensation.specs.InnerLanes.{lane_at, taken_at}
use Rattle.compensation.proofs.Lanes.{loaded, kept}
use Rattle.compensation.proofs.tiles.load_both.Goals as goal

pub returns : goal.returns
returns g c =
    let a = c.args in
    let w = g.row.W in
    let h = g.row.H in
    let first = c.load_lanes in
    let n = w * h in
    let room : length first.new.t ≡ 16 = ap length first.ensures ∙ row-length (replicate 16 0) 0 (lane_at a.cb.now a.from a.stride w) n in (
      kept first.new.t n w h n (lane_at a.cr.now a.from a.stride w) (taken_at a.cb.now a.stride a.from) c.load_lanes-2.ensures (omega arith)
          (loaded (replicate 16 0) a.cb.now 0 a.from a.stride w h first.ensures (omega arith)),
      loaded first.new.t a.cr.now n a.from a.stride w h c.load_lanes-2.ensures (omega (arith, room)),
    )
