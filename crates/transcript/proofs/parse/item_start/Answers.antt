-- `transcript::parse::item_start` answers `item_start`.
use borrow.Author.Tests.{lt-ltb, le-ltb}
use Rattle.ints.specs.Z.{when◌then◌else◌}
use Rattle.levels.specs.Items.{item_start}
use Rattle.transcript.proofs.parse.item_start.Goals as goal

pub returns-then-i-lt18 : goal.returns-then-i-lt18
unfolding item_start when◌then◌else◌
returns-then-i-lt18 c = rw (lt-ltb c.args.i 18 c.if-i-lt18.true)

pub returns-else-i-lt18 : goal.returns-else-i-lt18
unfolding item_start when◌then◌else◌
returns-else-i-lt18 c = rw (le-ltb c.args.i 18 c.if-i-lt18.false)
