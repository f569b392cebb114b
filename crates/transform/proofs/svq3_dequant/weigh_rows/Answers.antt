-- Row by row.
use Rattle.std.proofs.Common.{pos, rules}
use Rattle.transform.specs.InnerArrays.{weighed_row}
use Rattle.ints.proofs.Made.{made-by}
use Rattle.transform.proofs.svq3_dequant.weigh_rows.Goals as goal

pub returns : goal.returns
returns c = made-by _ (λ i. weighed_row c.args.k c.args.x.now i) _ (λ i y q h. search rules) (pos 0) 4 c.from_fn.ensures.items
