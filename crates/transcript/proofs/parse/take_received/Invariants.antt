-- `transcript::parse::take_received`: one byte a turn.
use Rattle.transcript.specs.InnerReceived.{Received}
use Rattle.transcript.proofs.parse.take_received.Given as goal

abbrev pub invariant-loop-i : goal.invariant-loop-i
invariant-loop-i l = Received l.bytes l.at l.i l.t
