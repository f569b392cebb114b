-- `printing::header::read_list`: where the calls that are left end is where all of them do.
use mathlib.Core.Path.{◌≡◌}
use Prim.Native.Nat.{◌-◌, ◌≤◌}
use lib.ListN.{drop}
use Rattle.printing.specs.Header.{calls_from}
use Rattle.refusal.specs.Answered.{reached}
use Rattle.printing.proofs.header.read_list.Given as goal

abbrev pub invariant-loop-i : goal.invariant-loop-i
invariant-loop-i l = (reached l.at (calls_from l.count (drop l.at l.input)) ≡ reached l.p (calls_from (l.count - l._i) (drop l.p l.input))) × (l._i ≤ l.count)
