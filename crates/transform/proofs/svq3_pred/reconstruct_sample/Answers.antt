-- The sum fits 16 bits, and is held.
use Rattle.std.proofs.Common.{ap, refl, nat_abs, pos, ◌+ℤ◌}
use mir.Syntax.{w16}
use Rattle.ints.specs.Z.{clip1_z}
use Rattle.ints.proofs.Fits.{read, back}
use Rattle.ints.proofs.Same.{reads}
use Rattle.transform.proofs.Methods.{clamped}
use Rattle.transform.proofs.svq3_pred.reconstruct_sample.Goals as goal

pub returns : goal.returns
unfolding clip1_z
returns c =
    let p = c.ranges.pred.fits in
    let r = c.requires in
    let v = read w16 (read w16 c.from.result +ℤ read w16 c.args.residual) in
    ap nat_abs (back w16 c.clamp.type_inv (clamped (pos 0) (pos 255) v refl c.clamp.ensures.value (search reads depth 20)))
