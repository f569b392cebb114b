-- `printing::print::print`: an input past 32,768 bytes is cut.
use mathlib.Core.Path.{sym, ap}
use native.Mathlib.Omega.{arith}
use lib.Seq.{take_all, length-take-le}
use Rattle.printing.specs.Print.{printed}
use Rattle.printing.proofs.Texts.{written_as}
use Rattle.printing.proofs.print.print.Goals as goal

pub returns-then-input-le32768 : goal.returns-then-input-le32768
returns-then-input-le32768 c =
    let e = c.print_input.ensures in
    (e.0, written_as (ap printed (sym (take_all 32768 c.args.input.now c.if-input-le32768.true))) e.1)

pub slice_bounds-print_input-end : goal.slice_bounds-print_input-end
slice_bounds-print_input-end c = sym (length-take-le 32768 c.args.input.now (omega (arith, c.if-input-le32768.false)))
