-- `printing::text::hex_digit`: 0 to 9, then a to f.
use borrow.Author.Tests.{lt-ltb, le-ltb}
use Rattle.ints.specs.Z.{when◌then◌else◌}
use Rattle.printing.specs.Text.{hex_digit}
use Rattle.printing.proofs.text.hex_digit.Goals as goal

pub returns-then-n-lt10 : goal.returns-then-n-lt10
unfolding hex_digit when◌then◌else◌
returns-then-n-lt10 c = rw (lt-ltb _ _ c.if-n-lt10.true)

pub returns-else-n-lt10 : goal.returns-else-n-lt10
unfolding hex_digit when◌then◌else◌
returns-else-n-lt10 c = rw (le-ltb _ _ c.if-n-lt10.false)
