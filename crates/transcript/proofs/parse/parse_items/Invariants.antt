-- `transcript::parse::parse_items`: what is still to be read, joined to what was read, is the whole.
use Prim.Native.Nat.{◌-◌}
use Rattle.record.specs.Parse.{parse_item}
use Rattle.levels.proofs.Walks.{Going}
use Rattle.transcript.proofs.parse.parse_items.Given as goal

abbrev pub invariant-loop-i : goal.invariant-loop-i
invariant-loop-i l = Going parse_item l.pattern l.initial.levels l.bytes l.at l.i l.p l.levels

abbrev pub decreases-loop-i : goal.decreases-loop-i
decreases-loop-i l = 26 - l.i
