-- Each level scaled.
use Rattle.std.proofs.Common.{rules, pos}
use Rattle.transform.specs.Residual.{placed, listed, scaled}
use Rattle.transform.specs.ChromaDc.{scaled_at}
use Rattle.ints.proofs.Made.{made-by}
use Rattle.transform.proofs.svq3_dequant.scale_luma_block_by_quantiser.Goals as goal

pub returns : goal.returns
unfolding listed scaled placed scaled_at
returns c = made-by _ (scaled_at c.args.scale.by c.args.levels.now) _ (λ i y q h. search rules) (pos 0) 16 c.from_fn.ensures.items
