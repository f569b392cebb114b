-- Each column.
use Rattle.std.proofs.Common.{rules}
use Rattle.picture.specs.InnerRows.{row}
use Rattle.compensation.specs.InnerKernel.{near_from}
use Rattle.ints.proofs.Made.{made-by}
use Rattle.compensation.proofs.window.columns_of.Goals as goal

pub returns : goal.returns
unfolding row near_from
returns c = made-by _ (near_from c.args.width c.args.bx) _ (λ i y q h. search rules) 0 17 c.from_fn.ensures.items
