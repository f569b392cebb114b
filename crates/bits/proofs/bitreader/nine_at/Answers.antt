-- `bits::bitreader::nine_at` answers the nine bits at its place: they are cut out of two bytes.
use mathlib.Core.Path.{◌≡◌, ◌∙◌}
use Prim.Native.Nat.{◌+◌, ◌*◌, ◌/◌, ◌%◌, ◌<◌}
use native.Mathlib.Omega.{arith}
use lib.ListN.{get_or}
use Rattle.bits.proofs.BitAt.{shifted, nine-at}
use Rattle.bits.proofs.bitreader.nine_at.Goals as goal

pub returns : goal.returns
returns c =
    let a = c.args in
    let s = a.bits.now in
    let p = a.at in
    let x : get_or s (p / 8) 0 < 256 = omega (arith, c.type_inv.bits (p / 8)) in
    let y : get_or s (p / 8 + 1) 0 < 256 = omega (arith, c.type_inv.bits (p / 8 + 1)) in
    let two : c.from_be_bytes-two.result ≡ 256 * get_or s (p / 8) 0 + get_or s (p / 8 + 1) 0 = c.from_be_bytes-two.ensures ∙ omega arith in
    rw (two, shifted (get_or s (p / 8) 0) (get_or s (p / 8 + 1) 0) (p % 8) x y (omega arith)) (let b = nine-at s p (omega arith) y in (omega arith, b.0, b.1))
