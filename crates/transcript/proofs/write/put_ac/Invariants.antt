-- `transcript::write::put_ac`: the lists that are left, written at their place, give the whole.
use mathlib.Core.Path.{◌≡◌}
use Prim.Native.Nat.{◌+◌, ◌-◌, ◌*◌}
use lib.ListN.{length, take, drop}
use Rattle.std.specs.Slice.Iter.{chunks_exact_rest, chunks_exact_size}
use Rattle.levels.specs.declared.svq3_coeff.ResidualBook.TheVariants.{NormalScan}
use Rattle.record.specs.InnerSides.{side_bytes}
use Rattle.transcript.proofs.Writing.{Still}
use Rattle.transcript.proofs.write.put_ac.Given as goal

abbrev pub invariant-loop-list : goal.invariant-loop-list
invariant-loop-list l =
    (chunks_exact_size l.list-iterator ≡ 16)
    × (chunks_exact_rest l.list-iterator ≡ take (128 - 16 * length l.yielded) (drop (264 + 16 * length l.yielded) l.levels))
    × Still l.initial.out l.at (side_bytes NormalScan 1 8 264 l.levels) l.out l.p (side_bytes NormalScan 1 (8 - length l.yielded) (264 + 16 * length l.yielded) l.levels)
