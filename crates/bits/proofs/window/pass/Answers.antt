-- `bits::window::pass`: a shift to the left drops the highest bits.
use Rattle.bits.proofs.Windows.{passed}
use Rattle.bits.proofs.window.pass.Goals as goal

pub returns : goal.returns
returns c =
    let a = c.args in
    λ s shown. passed a.window.word a.window.known a.n s c.requires.0 shown
