-- Scaled, the rows, the columns, rounded: each step is what the last gave.
use Rattle.std.proofs.Common.{◌∙◌, ap}
use mir.Facts.{to_z-of_z}
use Rattle.transform.specs.Residual.{placed, listed}
use Rattle.transform.specs.InnerArrays.{shortened, finished}
use Rattle.transform.proofs.Laws.{two-passes}
use Rattle.transform.proofs.svq3_dequant.dequantize_transform_luma_block_with_dc.Goals as goal

pub returns : goal.returns
returns c =
    let dc = to_z-of_z c.ranges.dc in
    let x = c.scale_luma_block_by_quantiser-x in
    let y = c.apply_luma_transform_rows-y in
    let z = c.apply_luma_transform_rows-z in
    two-passes c.args.scale.by c.args.dc (placed c.args.levels.now 0) x.ensures y.ensures z.ensures
    (c.finish_block.ensures ∙ ap (λ d. listed (shortened (finished d (placed z.result 0)))) dc)
