-- `compensation::tiles::mix_tiles` meets its contract: one tile a turn.
use mathlib.Core.Path.{◌≡◌}
use Prim.Native.Nat.{◌*◌}
use lib.ListN.{length}
use Rattle.picture.specs.InnerRows.{rows}
use Rattle.compensation.specs.InnerKernel.{mixed_block}
use Rattle.compensation.proofs.tiles.mix_tiles.Given as goal

abbrev pub invariant-loop-i : goal.invariant-loop-i
invariant-loop-i g l = (length l.dst ≡ length l.initial.dst) × (l.dst ≡ rows l.initial.dst l.b.stride l.b.x l.b.y (mixed_block l.mix l.src l.from) g.row.W (l.i * g.row.H))
