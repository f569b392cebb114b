-- Each step fits 64 bits, and the quotient is held in 16.
use Rattle.std.proofs.Common.{◌≡◌, ◌∙◌, refl, sym, subst, ℤ, pos, ◌+ℤ◌, ◌*ℤ◌}
use lib.IntN.{negsuc}
use lib.Signed.{shr_z}
use mir.Syntax.{w16, w32, w64}
use mir.Val.{SFits}
use mir.Facts.{to_z-of_z}
use Rattle.ints.proofs.Fits.{read, back, fits, within-clamp, within-lit}
use Rattle.ints.proofs.Same.{reads}
use Rattle.transform.specs.Residual.{rounded}
use Rattle.transform.specs.InnerArrays.{short}
use Rattle.transform.proofs.Methods.{clamped}
use Rattle.transform.proofs.svq3_dequant.finish.Goals.{After-clamp}
use Rattle.transform.proofs.svq3_dequant.finish.Goals as goal

-- an i32 as an i64, and a step in 64 bits
wide : ℤ → ℤ
wide z = read w64 (read w32 z)

held : (c : After-clamp) → read w64 c.clamp.result ≡ short (rounded c.args.t c.args.dc)
unfolding short rounded wide
held c =
    let t = c.ranges.t in
    let dc = c.ranges.dc in
    let v = read w64 (shr_z (read w64 (read w64 (wide c.args.t +ℤ read w64 (pos 169 *ℤ wide c.args.dc)) +ℤ pos 524288)) 1048576) in
    back w64 c.clamp.type_inv (clamped (negsuc 4095) (pos 4095) v refl c.clamp.ensures.value (search reads fits 20000 depth 30))

pub returns : goal.returns
unfolding short
returns c =
    to_z-of_z {w = w16} (subst (SFits w16) (sym (held c)) (fits (within-clamp 32768 _ _ _ (within-lit _ _ tt) (within-lit _ _ tt)))) ∙ held c
