-- `run::calls::check_calls`: the calls counted so far and those still to be read are all of them.
use Prim.Native.Nat.{◌-◌}
use lib.ListN.{length}
use Rattle.refusal.proofs.Lists.{Counting}
use Rattle.run.specs.Calls.{call_in, calls}
use Rattle.run.specs.InnerCalls.{calls_answer}
use Rattle.std.specs.Prelude.{Ok, Err}
use Rattle.run.proofs.calls.check_calls.Given as goal

abbrev pub invariant-loop-at : goal.invariant-loop-at
invariant-loop-at l = Counting call_in Ok Err (calls_answer (calls l.list)) l.list l.at l.count

abbrev pub decreases-loop-at : goal.decreases-loop-at
decreases-loop-at l = length l.list - l.at
