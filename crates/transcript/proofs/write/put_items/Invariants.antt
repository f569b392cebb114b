-- `transcript::write::put_items`: the lists that are left, written at their place, give the whole.
use Prim.Native.Nat.{◌-◌, ◌*◌}
use Rattle.record.specs.Write.{items_bytes}
use Rattle.transcript.proofs.Writing.{Still}
use Rattle.transcript.proofs.write.put_items.Given as goal

abbrev pub invariant-loop-q : goal.invariant-loop-q
invariant-loop-q l =
    Still l.initial.out l.at (items_bytes 26 0 l.pattern l.levels) l.out l.p (items_bytes (26 - 4 * l.q) (4 * l.q) l.pattern l.levels)
