-- `compensation::kernel::mix_row` meets its contract: one sample a turn.
use mathlib.Core.Path.{◌≡◌}
use Rattle.picture.specs.InnerRows.{row}
use Rattle.compensation.specs.InnerKernel.{mixed_row}
use Rattle.compensation.proofs.kernel.mix_row.Given as goal

abbrev pub invariant-loop-c : goal.invariant-loop-c
invariant-loop-c l = l.sample-items ≡ row l.initial.sample-items 0 (mixed_row l.mix l.src l.from) l.c
