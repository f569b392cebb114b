-- The residuals are held, and added as if they were not.
use Rattle.std.proofs.Common.{◌∙◌, ap, sym, subst, arith, rules}
use mir.Facts.{to_z-of_z}
use Rattle.transform.specs.Residual.{placed, residual}
use Rattle.transform.specs.Added.{added}
use Rattle.transform.specs.InnerArrays.{Short}
use Rattle.transform.proofs.Laws.{short-listed, added-listed}
use Rattle.transform.proofs.svq3_recon.add_block.Goals as goal

pub reconstruct_4x4-requires : goal.reconstruct_4x4-requires
reconstruct_4x4-requires c = (search rules, subst Short (sym c.dequantize_transform_luma_block_with_dc-r.ensures) (short-listed _))

pub returns : goal.returns
returns c =
    let s = c.args.s in
    c.reconstruct_4x4.ensures
    ∙ added-listed c.args.plane.now s.stride s.x s.y _ c.dequantize_transform_luma_block_with_dc-r.ensures (λ n. omega (arith, c.slice_known-1.given n))
    ∙ ap (λ d. added c.args.plane.now s.stride s.x s.y (residual c.args.scale.by d (placed c.args.levels.now 0))) (to_z-of_z c.ranges.dc)
