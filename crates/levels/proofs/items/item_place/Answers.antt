-- `levels::items::item_place` answers `item_place`, by the kind of the list.
use mathlib.Core.Path.{sym}
use Rattle.levels.proofs.ListKinds.{is-luma, is-dc, is-ac}
use Rattle.levels.proofs.items.item_place.Goals as goal

pub returns-then-i-lt16 : goal.returns-then-i-lt16
returns-then-i-lt16 c = sym (is-luma c.args.i c.if-i-lt16.true).place

pub returns-then-i-lt18 : goal.returns-then-i-lt18
returns-then-i-lt18 c = sym (is-dc c.args.i c.if-i-lt16.false c.if-i-lt18.true).place

pub returns-else-i-lt18 : goal.returns-else-i-lt18
returns-else-i-lt18 c = sym (is-ac c.args.i c.if-i-lt18.false).place
