-- `compensation::tiles::mix_tile_pairs` meets its contract: one tile a turn, half of it for each plane.
use mathlib.Core.Path.{◌≡◌}
use Prim.Native.Nat.{◌*◌}
use lib.ListN.{length}
use Rattle.picture.specs.InnerRows.{rows}
use Rattle.compensation.specs.InnerKernel.{mixed_block}
use Rattle.compensation.proofs.tiles.mix_tile_pairs.Given as goal

abbrev pub invariant-loop-i : goal.invariant-loop-i
invariant-loop-i g l =
    (length l.cb ≡ length l.initial.cb) × (length l.cr ≡ length l.initial.cr)
    × (l.cb ≡ rows l.initial.cb l.b.stride l.b.x l.b.y (mixed_block l.mix l.rcb l.from) g.row.W (l.i * g.row.H))
    × (l.cr ≡ rows l.initial.cr l.b.stride l.b.x l.b.y (mixed_block l.mix l.rcr l.from) g.row.W (l.i * g.row.H))
