-- `printing::text::put_bits`: the word is `bits`.
use Rattle.printing.specs.Text.{bits_line}
use Rattle.printing.proofs.text.put_bits.Goals as goal

pub put_count-requires : goal.put_count-requires
unfolding bits_line
put_count-requires c = c.requires

pub returns : goal.returns
unfolding bits_line
returns c = c.put_count.ensures
