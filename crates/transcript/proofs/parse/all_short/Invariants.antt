-- `transcript::parse::all_short`: one byte a turn.
use mathlib.Core.Path.{◌≡◌}
use Rattle.transcript.specs.InnerReceived.{short_received}
use Rattle.transcript.proofs.parse.all_short.Given as goal

abbrev pub invariant-loop-byte : goal.invariant-loop-byte
invariant-loop-byte l = (l.short ≡ short_received l.bytes l.at l.byte-index)
