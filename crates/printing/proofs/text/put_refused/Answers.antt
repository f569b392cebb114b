-- `printing::text::put_refused`: the word is `refused`, and the number is the refusal's.
use Rattle.printing.specs.Text.{refused_line}
use Rattle.printing.proofs.text.put_refused.Goals as goal

pub put_count-requires : goal.put_count-requires
unfolding refused_line
put_count-requires c = rw c.number_of.ensures c.requires

pub returns : goal.returns
unfolding refused_line
returns c = rw c.number_of.ensures at c.put_count.ensures
