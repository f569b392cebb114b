-- `transcript::write::put_short`: one byte a turn.
use mathlib.Core.Path.{◌≡◌}
use mathlib.Core.List.{map}
use lib.ListN.{length, take}
use lib.Seq.{sets}
use Rattle.transcript.specs.InnerSent.{sent_short}
use Rattle.transcript.proofs.write.put_short.Given as goal

abbrev pub invariant-loop-i : goal.invariant-loop-i
invariant-loop-i l = (length l.out ≡ length l.initial.out) × (l.out ≡ sets l.initial.out l.at (take l.i (map sent_short l.held)))
