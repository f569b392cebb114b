-- `levels::items::read_blocks`: the lists that are left, joined to those that were read, are the whole.
use mathlib.Core.Path.{◌≡◌}
use Prim.Native.Nat.{◌+◌, ◌-◌, ◌*◌}
use native.Mathlib.Omega.{arith}
use Rattle.bits.specs.Bits.{bit_list}
use Rattle.levels.specs.declared.svq3_coeff.ResidualBook.TheVariants.{NormalScan}
use Rattle.levels.specs.InnerSides.{read_side}
use Rattle.levels.specs.InnerLeft.{left_side}
use Rattle.refusal.proofs.Answered.{handed}
use Rattle.levels.proofs.Left.{goes-all, side-on, side-stops, side-ends}
use Rattle.levels.proofs.items.read_blocks.Goals as goal

pub loop-i-init : goal.loop-i-init
loop-i-init c =
    let a = c.args in
    let z : a.count - 0 ≡ a.count = omega arith in
    let f : a.place + 16 * 0 ≡ a.place = omega arith in
    rw (z, f) (goes-all (read_side NormalScan a.start a.count a.place) (left_side NormalScan a.start a.count a.place) a.levels.now (bit_list a.bits.bytes.now) a.at)

pub loop-i-preserved : goal.loop-i-preserved
loop-i-preserved c =
    let a = c.args in
    let l = c.loop-i in
    side-on NormalScan a.start a.place a.count l.i l.p l.levels l.invariant c.loop-i-test.true _ _ c.decode_residual_4x4_normal.ensures _ c.in_ok-p.was

pub returns-in_err-p : goal.returns-in_err-p
returns-in_err-p c =
    let a = c.args in
    let l = c.loop-i in
    rw (handed _ _ c.from_residual.ensures) (side-stops NormalScan a.start a.place a.count l.i l.p l.levels l.invariant c.loop-i-test.true _ _ c.decode_residual_4x4_normal.ensures _ c.in_err-p.was)

pub returns : goal.returns
returns c =
    let a = c.args in
    let l = c.loop-i in
    side-ends NormalScan a.start a.place a.count l.i l.p l.levels l.invariant c.loop-i-test.false
