-- `compensation::tiles::store_lanes` meets its contract: one lane a turn.
use mathlib.Core.Path.{◌≡◌, refl, ap, ◌∙◌}
use Prim.Native.Nat.{◌≤◌, ◌<◌, ◌+◌, ◌-◌, ◌*◌, ◌/◌, ◌%◌}
use native.Mathlib.Nat.{add-mul, mul-le-mul_right}
use native.Mathlib.Omega.{arith}
use lib.ListN.{length, length-set, take, drop}
use lib.Seq.{get_or-take, get_or-drop}
use Rattle.refusal.proofs.Parts.{part-length}
use Rattle.picture.proofs.Laws.{rows-painted}
use Rattle.compensation.specs.InnerLanes.{tiled}
use Rattle.compensation.proofs.Lanes.{lane_place, cells, cells-none, cells-more, cells-all, lane-back}
use Rattle.compensation.proofs.tiles.store_lanes.Given.{Over}
use Rattle.compensation.proofs.tiles.store_lanes.Goals.{In-loop-k, After-loop-k, Start}
use Rattle.compensation.proofs.tiles.store_lanes.Goals as goal

-- where the block starts
start : (g : Over) (c : Start g) → let a = c.args in (a.y * a.stride + g.row.H * a.stride ≤ length a.dst.now) × (1 * a.stride ≤ g.row.H * a.stride) × (a.x + g.row.W ≤ a.stride)
start g c = let a = c.args in (omega (arith, c.requires.2.down, add-mul a.y g.row.H a.stride), mul-le-mul_right a.stride c.requires.0.down, c.requires.2.across)

-- the lanes are W * H
many : (g : Over) (c : Start g) → let a = c.args in length (take (a.at + g.row.W * g.row.H - a.at) (drop a.at a.t)) ≡ g.row.W * g.row.H
many g c =
    let a = c.args in
    let n = g.row.W * g.row.H in
    let same : a.at + n - a.at ≡ n = omega arith in
    rw same (part-length a.at n a.t (omega arith))

-- the sample of a turn lies in the plane
lies : (g : Over) (c : In-loop-k g) → c.loop-k.k < g.row.W * g.row.H → let a = c.args in let k = c.loop-k.k in k / g.row.W * a.stride + k % g.row.W + a.stride < g.row.H * a.stride + g.row.W
lies g c = lane_place c.requires.0.across g.row.H c.args.stride c.loop-k.k

pub loop-k-init : goal.loop-k-init
loop-k-init g c = let a = c.args in (refl, cells-none a.dst.now a.stride a.x a.y (tiled a.t a.at g.row.W) c.requires.0.across)

pub loop-k-preserved : goal.loop-k-preserved
loop-k-preserved g c =
    let p = goal.at.loop-k-preserved g c in
    let a = c.args in
    let l = c.loop-k in
    let n = g.row.W * g.row.H in
    (simp length-set l.invariant.0, cells-more a.dst.now a.stride a.x a.y (tiled a.t a.at g.row.W) c.requires.0.across l.k l.invariant.1 (get_or-take (a.at + n - a.at) (drop a.at a.t) l.k 0 (omega (arith, many g p.Start)) ∙ get_or-drop a.at a.t l.k 0 ∙ lane-back a.t a.at g.row.W l.k))

pub returns : goal.returns
returns g c =
    let a = c.args in
    let w = g.row.W in
    let h = g.row.H in
    let v = tiled a.t a.at w in
    let e : c.loop-k.k ≡ w * h = omega (arith, many g (goal.at.returns g c).Start) in
    c.loop-k.invariant.1 ∙ ap (cells a.dst.now a.stride a.x a.y v w) e ∙ cells-all a.dst.now a.stride a.x a.y v c.requires.0.across h ∙ rows-painted 0 a.dst.now v c.requires.2

pub bounds-dst-to : goal.bounds-dst-to
bounds-dst-to g c = let p = goal.at.bounds-dst-to g c in omega (arith, lies g p.In-loop-k (omega (arith, many g p.Start)), start g p.Start)
