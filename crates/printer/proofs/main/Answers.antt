-- `printer::main` is safe, and ends: what is printed fits its buffer.
use mathlib.Core.Path.{sym, ◌∙◌}
use Prim.Native.Nat.{ℕ}
use native.Mathlib.Omega.{arith}
use lib.ListN.{length-replicate}
use lib.Seq.{length-take-le}
use Rattle.printing.proofs.Texts.{written-length}
use Rattle.printer.proofs.main.Goals as goal

pub slice_bounds-out-end : goal.slice_bounds-out-end
slice_bounds-out-end c =
    let w = c.print-size.ensures in
    omega (arith, w.0, written-length w.1 ∙ length-replicate {A = ℕ} 100352 0)

pub slice_bounds-write_all-end : goal.slice_bounds-write_all-end
slice_bounds-write_all-end c =
    let w = c.print-size.ensures in
    sym (length-take-le c.print-size.result c.print-size.new.out (omega (arith, w.0, written-length w.1 ∙ length-replicate {A = ℕ} 100352 0)))
