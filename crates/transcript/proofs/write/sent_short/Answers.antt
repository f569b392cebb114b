-- `transcript::write::sent_short`: its test is that of `sent_short`.
use borrow.Author.Tests.{lt-ltb, le-ltb}
use Rattle.ints.specs.Z.{when◌then◌else◌}
use Rattle.transcript.specs.InnerSent.{sent_short}
use Rattle.transcript.proofs.write.sent_short.Goals as goal

pub returns-then-twice-lt128 : goal.returns-then-twice-lt128
unfolding sent_short when◌then◌else◌
returns-then-twice-lt128 c = rw (lt-ltb _ _ c.if-twice-lt128.true)

pub returns-else-twice-lt128 : goal.returns-else-twice-lt128
unfolding sent_short when◌then◌else◌
returns-else-twice-lt128 c = rw (le-ltb _ _ c.if-twice-lt128.false)
