-- `levels::items::read_items`: what is still to be read, joined to what was read, is the whole.
use mathlib.Core.Path.{◌≡◌}
use native.Mathlib.Omega.{arith}
use Rattle.bits.specs.Bits.{bit_list}
use Rattle.levels.specs.Items.{read_items}
use Rattle.levels.specs.InnerLeft.{left_items}
use Rattle.refusal.proofs.Answered.{handed}
use Rattle.levels.proofs.Left.{goes-all, goes_last, quadrant-on, quadrant-stops}
use Rattle.levels.proofs.items.read_items.Goals as goal

pub loop-q-init : goal.loop-q-init
loop-q-init c = let a = c.args in goes-all (read_items 26 0 a.pattern) (left_items 26 0 a.pattern) a.levels.now (bit_list a.bits.bytes.now) a.at

pub loop-q-preserved : goal.loop-q-preserved
loop-q-preserved c =
    let a = c.args in
    let l = c.loop-q in
    quadrant-on a.pattern l.q l.p l.levels c.loop-q-test.true l.invariant _ _ c.read_quadrant.ensures _ c.in_ok-p.was

pub returns-in_err-p : goal.returns-in_err-p
returns-in_err-p c =
    let a = c.args in
    let l = c.loop-q in
    rw (handed _ _ c.from_residual.ensures) (quadrant-stops a.pattern l.q l.p l.levels c.loop-q-test.true l.invariant _ _ c.read_quadrant.ensures _ c.in_err-p.was)

pub returns : goal.returns
returns c =
    let l = c.loop-q in
    let e : l.q ≡ 4 = omega arith in
    goes_last _ _ _ _ _ (rw e at l.invariant) c.read_chroma.ensures.answers c.read_chroma.ensures.leaves
