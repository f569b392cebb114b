-- `compensation::kernel::copy_rows` meets its contract: one row a turn.
use mathlib.Core.Path.{◌≡◌}
use lib.ListN.{length}
use Rattle.picture.specs.InnerRows.{rows}
use Rattle.compensation.specs.Formula.{formula}
use Rattle.compensation.specs.InnerKernel.{four_block}
use Rattle.compensation.proofs.kernel.copy_rows.Given as goal

abbrev pub invariant-loop-r : goal.invariant-loop-r
invariant-loop-r l = (length l.dst ≡ length l.initial.dst) × (l.dst ≡ rows l.initial.dst l.b.stride l.b.x l.b.y (four_block (formula 0 0) l.src l.stride l.from) l.w l.r)
