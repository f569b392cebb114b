-- `compensation::kernel::mix_block` meets its contract: one row a turn.
use mathlib.Core.Path.{◌≡◌}
use lib.ListN.{length}
use Rattle.picture.specs.InnerRows.{rows}
use Rattle.compensation.specs.InnerKernel.{mixed_block}
use Rattle.compensation.proofs.kernel.mix_block.Given as goal

abbrev pub invariant-loop-r : goal.invariant-loop-r
invariant-loop-r l = (length l.dst ≡ length l.initial.dst) × (l.dst ≡ rows l.initial.dst l.b.stride l.b.x l.b.y (mixed_block l.mix l.src l.from) l.b.w l.r)
