-- `levels::items::group_end`: the lists up to its answer are coded with list i, by the kind of the list.
use mathlib.Core.Path.{refl}
use Rattle.levels.proofs.ListKinds.{luma-group, dc-group, ac-group}
use Rattle.levels.proofs.items.group_end.Goals as goal

pub returns-then-i-lt16 : goal.returns-then-i-lt16
returns-then-i-lt16 c = luma-group c.args.i _ c.if-i-lt16.true refl

pub returns-then-i-lt18 : goal.returns-then-i-lt18
returns-then-i-lt18 c = dc-group c.args.i c.if-i-lt16.false c.if-i-lt18.true

pub returns-else-i-lt18 : goal.returns-else-i-lt18
returns-else-i-lt18 c = ac-group c.args.i c.if-i-lt18.false c.requires
