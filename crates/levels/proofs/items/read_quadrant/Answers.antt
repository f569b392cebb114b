-- `levels::items::read_quadrant` reads the quadrant's four lists, or none.
use mathlib.Core.Path.{sym, ◌∙◌}
use Prim.Native.Nat.{◌*◌}
use Rattle.bits.specs.Bits.{bit_list}
use Rattle.levels.proofs.Sides.{luma-side, luma-coded, luma-place}
use Rattle.levels.proofs.Left.{side-leaves, side-passed}
use Rattle.levels.proofs.items.read_quadrant.Goals as goal

pub returns-then-luma_quadrant_coded : goal.returns-then-luma_quadrant_coded
returns-then-luma_quadrant_coded c =
    let a = c.args in
    let t = luma-coded a.pattern a.q c.requires ∙ sym c.luma_quadrant_coded.ensures ∙ c.if-luma_quadrant_coded.true in
    side-leaves (luma-side a.q c.requires) a.pattern a.levels.now (bit_list a.bits.bytes.now) a.at t (64 * a.q) (luma-place a.q c.requires) _ _ c.read_blocks.ensures

pub returns : goal.returns
returns c =
    let a = c.args in
    let t = luma-coded a.pattern a.q c.requires ∙ sym c.luma_quadrant_coded.ensures ∙ c.if-luma_quadrant_coded.false in
    side-passed (luma-side a.q c.requires) a.pattern a.levels.now (bit_list a.bits.bytes.now) a.at t
