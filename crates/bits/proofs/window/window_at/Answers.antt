-- `bits::window::window_at`: the window of eight bytes, or an empty one.
use Rattle.bits.specs.Bits.{bit_list}
use Rattle.bits.proofs.Windows.{shows-none, filled}
use Rattle.bits.proofs.window.window_at.Goals as goal

pub returns-then-i-bits : goal.returns-then-i-bits
returns-then-i-bits c =
    let a = c.args in
    filled c.word_at.result a.at (bit_list a.bits.now) c.word_at.ensures

pub returns : goal.returns
returns c = shows-none _ _
