-- `compensation::tiles::mix_tiles` meets its contract: one tile a turn.
use mathlib.Core.Path.{refl, ◌∙◌}
use Prim.Native.Nat.{◌≤◌, ◌+◌, ◌*◌}
use native.Mathlib.Nat.{zero-add, zero-mul}
use native.Mathlib.Omega.{arith}
use lib.ListN.{length}
use Rattle.picture.specs.Painted.{Inside}
use Rattle.picture.specs.InnerRows.{rows}
use Rattle.picture.proofs.Laws.{rows-painted}
use Rattle.compensation.proofs.Lanes.{turn-lies, turns-all, turn-more}
use Rattle.compensation.proofs.tiles.mix_tiles.Given.{Over}
use Rattle.compensation.proofs.tiles.mix_tiles.Goals.{In-loop-i}
use Rattle.compensation.proofs.tiles.mix_tiles.Goals as goal

lies : (g : Over) (c : In-loop-i g) → let a = c.args in let l = c.loop-i in let r = l.i * g.row.H in (r * a.mix.stride + g.row.H * a.mix.stride ≤ a.b.h * a.mix.stride) × (a.b.y + r ≤ length a.dst.now) × Inside a.b.stride a.b.x (a.b.y + r) g.row.W g.row.H (length l.dst)
lies g c = turn-lies g.row.H c.args.mix.stride (rw c.requires.tile.1 at c.requires.block_in.0) c.loop-i.invariant.0 c.loop-i-test.true

pub loop-i-init : goal.loop-i-init
unfolding rows
loop-i-init g c = (refl, rw (zero-mul g.row.H) refl)

pub overflow_mul-r-in-loop-i : goal.overflow_mul-r-in-loop-i
overflow_mul-r-in-loop-i g c = omega (arith, (lies g (goal.at.overflow_mul-r-in-loop-i g c).In-loop-i).0)

pub overflow_add-from : goal.overflow_add-from
overflow_add-from g c = omega (arith, (lies g (goal.at.overflow_add-from g c).In-loop-i).0)

pub mix_tile-t-requires : goal.mix_tile-t-requires
mix_tile-t-requires g c = (c.requires.tile.0, omega (arith, (lies g (goal.at.mix_tile-t-requires g c).In-loop-i).0))

pub store_lanes-requires : goal.store_lanes-requires
store_lanes-requires g c = (c.requires.tile.0, rw (zero-add (g.row.W * g.row.H)) c.requires.tile.0.room, (lies g (goal.at.store_lanes-requires g c).In-loop-i).2)

pub loop-i-preserved : goal.loop-i-preserved
loop-i-preserved g c =
    let a = c.args in
    let l = c.loop-i in
    let t = c.mix_tile-t in (
      omega (arith, c.store_lanes.auto.dst),
      turn-more a.dst.now t.result a.b.stride a.b.x a.b.y a.mix a.src.now a.from 0 g.row.W g.row.H l.i l.invariant.1 t.ensures c.store_lanes.ensures (lies g (goal.at.loop-i-preserved g c).In-loop-i).2,
    )

pub returns : goal.returns
returns g c =
    let l = c.loop-i in
    let e = turns-all g.row.H l.auto.i-end c.loop-i-test.false c.requires.tile.2 in
    l.invariant.1 ∙ rw (c.requires.tile.1, e) (rows-painted 0 _ _ (rw c.requires.tile.1 at c.requires.block_in.0))
