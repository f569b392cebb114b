-- `levels::items::item_coded` answers `item_coded`, by the kind of the list.
use mathlib.Core.Path.{sym, ap, ◌∙◌}
use Prim.Native.Nat.{ℕ}
use lib.Dec.{ltb, eqb}
use Rattle.levels.proofs.ListKinds.{is-luma, is-dc, is-ac}
use Rattle.levels.proofs.items.item_coded.Goals as goal

pub returns-then-i-lt16 : goal.returns-then-i-lt16
returns-then-i-lt16 c = c.luma_quadrant_coded.ensures ∙ sym ((is-luma c.args.i c.if-i-lt16.true).coded c.args.pattern)

pub returns-then-i-lt18 : goal.returns-then-i-lt18
returns-then-i-lt18 c = ap (ltb 0) c.chroma_class.ensures ∙ sym ((is-dc c.args.i c.if-i-lt16.false c.if-i-lt18.true).coded c.args.pattern)

pub returns : goal.returns
returns c = ap (λ (n : ℕ). eqb n 2) c.chroma_class-2.ensures ∙ sym ((is-ac c.args.i c.if-i-lt18.false).coded c.args.pattern)
