-- `compensation::tiles::mix_tile_pairs` meets its contract: one tile a turn, half of it for each plane.
use mathlib.Core.Path.{refl, ◌∙◌}
use Prim.Native.Nat.{◌≤◌, ◌+◌, ◌*◌}
use native.Mathlib.Nat.{zero-add, zero-mul}
use native.Mathlib.Omega.{arith}
use lib.ListN.{length}
use Rattle.picture.specs.Painted.{Inside}
use Rattle.picture.specs.InnerRows.{rows}
use Rattle.picture.proofs.Laws.{rows-painted}
use Rattle.compensation.proofs.Lanes.{roomier, two, turn-lies, turns-all, turn-more}
use Rattle.compensation.proofs.tiles.mix_tile_pairs.Given.{Over}
use Rattle.compensation.proofs.tiles.mix_tile_pairs.Goals.{In-loop-i}
use Rattle.compensation.proofs.tiles.mix_tile_pairs.Goals as goal

cb-lies : (g : Over) (c : In-loop-i g) → let b = c.args.b in let m = c.args.mix in let r = c.loop-i.i * g.row.H in (r * m.stride + g.row.H * m.stride ≤ b.h * m.stride) × (b.y + r ≤ length c.args.cb.now) × Inside b.stride b.x (b.y + r) g.row.W g.row.H (length c.loop-i.cb)
cb-lies g c = turn-lies g.row.H c.args.mix.stride (rw c.requires.tile.1 at c.requires.block_in.0) c.loop-i.invariant.0 c.loop-i-test.true

cr-lies : (g : Over) (c : In-loop-i g) → let b = c.args.b in let m = c.args.mix in let r = c.loop-i.i * g.row.H in (r * m.stride + g.row.H * m.stride ≤ b.h * m.stride) × (b.y + r ≤ length c.args.cr.now) × Inside b.stride b.x (b.y + r) g.row.W g.row.H (length c.loop-i.cr)
cr-lies g c = turn-lies g.row.H c.args.mix.stride (rw c.requires.tile.1 at c.requires.block_in.1) c.loop-i.invariant.1 c.loop-i-test.true

pub loop-i-init : goal.loop-i-init
unfolding rows
loop-i-init g c = (refl, refl, rw (zero-mul g.row.H) refl, rw (zero-mul g.row.H) refl)

pub overflow_mul-r-in-loop-i : goal.overflow_mul-r-in-loop-i
overflow_mul-r-in-loop-i g c = omega (arith, (cb-lies g (goal.at.overflow_mul-r-in-loop-i g c).In-loop-i).0)

pub overflow_add-from : goal.overflow_add-from
overflow_add-from g c = omega (arith, (cb-lies g (goal.at.overflow_add-from g c).In-loop-i).0)

pub mix_tile_pair-t-requires : goal.mix_tile_pair-t-requires
mix_tile_pair-t-requires g c =
    let lies = (cb-lies g (goal.at.mix_tile_pair-t-requires g c).In-loop-i).0 in
    (c.requires.tile.0, omega (arith, lies, c.requires.taps.0), omega (arith, lies, c.requires.taps.1))

pub store_lanes-requires : goal.store_lanes-requires
store_lanes-requires g c = let m = c.requires.tile.0 in (roomier m, rw (zero-add (g.row.W * g.row.H)) (roomier m).room, (cb-lies g (goal.at.store_lanes-requires g c).In-loop-i).2)

pub store_lanes-requires-in-loop-i : goal.store_lanes-requires-in-loop-i
store_lanes-requires-in-loop-i g c = let m = c.requires.tile.0 in (roomier m, omega (arith, two m), (cr-lies g (goal.at.store_lanes-requires-in-loop-i g c).In-loop-i).2)

pub loop-i-preserved : goal.loop-i-preserved
loop-i-preserved g c =
    let a = c.args in
    let l = c.loop-i in
    let w = g.row.W in
    let h = g.row.H in
    let t = c.mix_tile_pair-t in (
      omega (arith, l.invariant.0, c.store_lanes.auto.dst),
      omega (arith, l.invariant.1, c.store_lanes-in-loop-i.auto.dst),
      turn-more a.cb.now t.result a.b.stride a.b.x a.b.y a.mix a.rcb.now a.from 0 w h l.i l.invariant.2 t.ensures.0 c.store_lanes.ensures (cb-lies g (goal.at.loop-i-preserved g c).In-loop-i).2,
      turn-more a.cr.now t.result a.b.stride a.b.x a.b.y a.mix a.rcr.now a.from (w * h) w h l.i l.invariant.3 t.ensures.1 c.store_lanes-in-loop-i.ensures (cr-lies g (goal.at.loop-i-preserved g c).In-loop-i).2,
    )

pub returns : goal.returns
returns g c =
    let l = c.loop-i in
    let e = turns-all g.row.H l.auto.i-end c.loop-i-test.false c.requires.tile.2 in
    record { cb_after = l.invariant.2 ∙ rw (c.requires.tile.1, e) (rows-painted 0 _ _ (rw c.requires.tile.1 at c.requires.block_in.0)); cr_after = l.invariant.3 ∙ rw (c.requires.tile.1, e) (rows-painted 0 _ _ (rw c.requires.tile.1 at c.requires.block_in.1)) }
