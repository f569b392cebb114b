-- `transcript::parse::item_count` answers `item_count`, by the kind of the list.
use mathlib.Core.Path.{sym}
use Rattle.levels.proofs.ListKinds.{is-luma, is-dc, is-ac}
use Rattle.transcript.proofs.parse.item_count.Goals as goal

pub returns-then-i-lt16 : goal.returns-then-i-lt16
returns-then-i-lt16 c = sym (is-luma c.args.i c.if-i-lt16.true).count

pub returns-then-i-lt18 : goal.returns-then-i-lt18
returns-then-i-lt18 c = sym (is-dc c.args.i c.if-i-lt16.false c.if-i-lt18.true).count

pub returns-else-i-lt18 : goal.returns-else-i-lt18
returns-else-i-lt18 c = sym (is-ac c.args.i c.if-i-lt18.false).count
