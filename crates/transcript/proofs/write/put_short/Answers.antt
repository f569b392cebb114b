-- `transcript::write::put_short`: one byte a turn.
use native.Mathlib.Omega.{arith}
use mathlib.Core.List.{map}
use lib.ListN.{length-set, length-map}
use Rattle.transcript.specs.InnerSent.{sent_short}
use Rattle.transcript.proofs.Sent.{sent-at, stored-turn}
use Rattle.transcript.proofs.write.put_short.Goals as goal

pub loop-i-preserved : goal.loop-i-preserved
loop-i-preserved c =
    let a = c.args in
    let l = c.loop-i in
    (simp length-set l.invariant.0, rw (l.invariant.1, c.sent_short.ensures, ← sent-at a.held.now l.i) (stored-turn 0 a.out.now a.at (map sent_short a.held.now) l.i (omega (arith, length-map a.held.now sent_short, c.loop-i-test.true))))
