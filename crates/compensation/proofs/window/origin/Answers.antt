-- `compensation::window::origin` meets its contract: nothing is lost in 64 bits.
use mathlib.Core.Path.{◌≡◌, ap, ◌∙◌}
use Prim.Native.Nat.{◌-◌}
use native.Mathlib.Omega.{arith}
use lib.IntN.{ℤ, pos, negsuc, nat_abs, ◌+ℤ◌}
use mir.Syntax.{w64}
use mir.Facts.{to_z-of_z}
use Rattle.std.specs.Int.{int_max, int_min}
use Rattle.ints.specs.Z.{clamp_z}
use Rattle.ints.proofs.Fits.{read, back, cast-pos}
use Rattle.compensation.specs.InnerKernel.{origin_of}
use Rattle.compensation.proofs.Taps.{held-std, origin-le, origin-back}
use Rattle.compensation.proofs.window.origin.Goals as goal

pub returns : goal.returns
returns c =
    let n = c.args.n in
    let z = c.args.first in
    let held : read w64 c.clamp-held.result ≡ clamp_z (negsuc 16) (pos (n - 1)) z = back w64 c.clamp-held.type_inv (c.clamp-held.ensures.value ∙ (λ i. int_max (negsuc 16) (int_min (to_z-of_z c.ranges.first i) (cast-pos w64 65537 (n - 1) (omega arith) tt i))) ∙ held-std n z) in
    let sum : read w64 c.clamp-held.result +ℤ pos 17 ≡ pos (origin_of n z) = ap (λ (z : ℤ). z +ℤ pos 17) held ∙ origin-back n z in
    ap nat_abs (back w64 (rw sum (omega (arith, origin-le n z c.requires.0))) sum)
