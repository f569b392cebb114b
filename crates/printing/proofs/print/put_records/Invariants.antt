-- `printing::print::put_records`: the lines of the records that are left, written at their place, give the whole.
use Prim.Native.Nat.{◌-◌}
use lib.ListN.{length}
use Rattle.printing.proofs.Lines.{Going}
use Rattle.printing.proofs.print.put_records.Given as goal

abbrev pub invariant-loop-i : goal.invariant-loop-i
invariant-loop-i l = Going l.transcript.grid.cols l.transcript.grid.rows l.bytes l.initial.out l.at l.out l.p l.i

abbrev pub decreases-loop-i : goal.decreases-loop-i
decreases-loop-i l = length l.bytes - l.i
