-- `bits::pair::word_here`: the bits before the place are shifted out.
use Rattle.bits.specs.Bits.{bit_list}
use Rattle.bits.proofs.Pairs.{here-shows}
use Rattle.bits.proofs.pair.word_here.Goals as goal

pub returns : goal.returns
returns c = let a = c.args in here-shows c.four_at.result a.at (bit_list a.bits.now) c.four_at.ensures
