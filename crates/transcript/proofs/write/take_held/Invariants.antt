-- `transcript::write::take_held`: one number a turn.
use Rattle.transcript.specs.InnerSent.{Held}
use Rattle.transcript.proofs.write.take_held.Given as goal

abbrev pub invariant-loop-i : goal.invariant-loop-i
invariant-loop-i l = Held l.numbers 0 l.i l.t
