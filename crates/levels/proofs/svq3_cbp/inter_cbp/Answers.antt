-- `levels::svq3_cbp::inter_cbp` answers `pattern_entry`.
use native.Mathlib.Omega.{arith}
use Rattle.levels.specs.Pattern.{patterns}
use Rattle.levels.proofs.Patterns.{entry-is, missing-is}
use Rattle.levels.proofs.svq3_cbp.inter_cbp.Goals as goal

pub returns-then-code-lt48 : goal.returns-then-code-lt48
unfolding patterns
returns-then-code-lt48 c = entry-is c.args.code c.if-code-lt48.true

pub returns-else-code-lt48 : goal.returns-else-code-lt48
returns-else-code-lt48 c = missing-is c.args.code (omega arith)
