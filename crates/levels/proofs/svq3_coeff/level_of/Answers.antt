-- `levels::svq3_coeff::level_of` answers `level_of`: one return for each sign.
use Rattle.levels.proofs.Entries.{positive, negative}
use Rattle.levels.proofs.svq3_coeff.level_of.Goals as goal

pub returns-then-code-eq1 : goal.returns-then-code-eq1
returns-then-code-eq1 c = positive c.args.code c.args.magnitude c.if-code-eq1.true c.requires

pub returns-else-code-eq1 : goal.returns-else-code-eq1
returns-else-code-eq1 c = negative c.args.code c.args.magnitude c.if-code-eq1.false c.requires
