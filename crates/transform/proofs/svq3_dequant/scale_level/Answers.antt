-- The product, saturated.
use Rattle.std.proofs.Common.{◌<◌, arith}
use mir.Syntax.{w32}
use Rattle.ints.proofs.Fits.{back}
use Rattle.ints.proofs.Same.{reads}
use Rattle.transform.proofs.Methods.{saturated}
use Rattle.transform.proofs.svq3_dequant.scale_level.Goals as goal

pub returns : goal.returns
returns c =
    let s = c.args.scale in
    let h : s.by < 141534 = omega (arith, s.small) in
    let l = c.ranges.level in
    back w32 c.saturating_mul.type_inv (saturated c.saturating_mul.ensures (search reads depth 20))
