-- `transcript::write::put_blocks`: the lists that are left, written at their place, give the whole.
use mathlib.Core.Path.{◌≡◌}
use Prim.Native.Nat.{◌+◌, ◌-◌, ◌*◌}
use lib.ListN.{length, take, drop}
use Rattle.levels.specs.declared.svq3_coeff.ResidualBook.TheVariants.{NormalScan}
use Rattle.record.specs.InnerSides.{side_bytes}
use Rattle.transcript.proofs.Writing.{Still}
use Rattle.std.specs.Slice.Iter.{chunks_exact_rest, chunks_exact_size}
use Rattle.transcript.proofs.write.put_blocks.Given as goal

abbrev pub invariant-loop-list : goal.invariant-loop-list
invariant-loop-list l =
    (chunks_exact_size l.list-iterator ≡ 16)
    × (chunks_exact_rest l.list-iterator ≡ take (64 - 16 * length l.yielded) (drop (l.place + 16 * length l.yielded) l.levels))
    × Still l.initial.out l.at (side_bytes NormalScan 0 4 l.place l.levels) l.out l.p (side_bytes NormalScan 0 (4 - length l.yielded) (l.place + 16 * length l.yielded) l.levels)
