-- Each number finished.
use Rattle.std.proofs.Common.{rules, pos, get_or}
use Rattle.transform.specs.Residual.{placed, listed, rounded}
use Rattle.transform.specs.InnerArrays.{short, shortened, finished}
use Rattle.ints.proofs.Made.{made-by}
use Rattle.transform.proofs.svq3_dequant.finish_block.Goals as goal

pub returns : goal.returns
unfolding listed shortened finished placed
returns c = made-by _ (λ n. short (rounded (get_or c.args.t.now n (pos 0)) c.args.dc)) _ (λ i y q h. search rules) (pos 0) 16 c.from_fn.ensures.items
