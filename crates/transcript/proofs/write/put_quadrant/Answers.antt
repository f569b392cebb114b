-- `transcript::write::put_quadrant` writes the quadrant's four lists, or none.
use mathlib.Core.Path.{sym, ◌∙◌}
use Prim.Native.Nat.{◌*◌}
use native.Mathlib.Omega.{arith}
use Rattle.levels.proofs.Sides.{luma-side, luma-coded, luma-place}
use Rattle.record.proofs.SideBytes.{side-written, side-unwritten}
use Rattle.transcript.proofs.Writing.{written_none}
use Rattle.transcript.proofs.write.put_quadrant.Goals as goal

pub put_blocks-requires : goal.put_blocks-requires
put_blocks-requires c =
    let a = c.args in
    let t = luma-coded a.pattern a.q c.requires.0 ∙ sym c.luma_quadrant_coded.ensures ∙ c.if-luma_quadrant_coded.true in
    (omega (arith, c.requires.0), rw (side-written (luma-side a.q c.requires.0) a.pattern t (64 * a.q) (luma-place a.q c.requires.0) a.levels.now) at c.requires.1)

pub returns-then-luma_quadrant_coded : goal.returns-then-luma_quadrant_coded
returns-then-luma_quadrant_coded c =
    let a = c.args in
    let t = luma-coded a.pattern a.q c.requires.0 ∙ sym c.luma_quadrant_coded.ensures ∙ c.if-luma_quadrant_coded.true in
    rw (side-written (luma-side a.q c.requires.0) a.pattern t (64 * a.q) (luma-place a.q c.requires.0) a.levels.now) c.put_blocks.ensures

pub returns : goal.returns
returns c =
    let a = c.args in
    let t = luma-coded a.pattern a.q c.requires.0 ∙ sym c.luma_quadrant_coded.ensures ∙ c.if-luma_quadrant_coded.false in
    written_none a.out.now a.at _ (side-unwritten (luma-side a.q c.requires.0) a.pattern t a.levels.now)
