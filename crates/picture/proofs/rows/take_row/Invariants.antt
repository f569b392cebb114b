-- `picture::rows::take_row` meets its contract: the invariant has the samples taken so far.
use mathlib.Core.Path.{◌≡◌}
use lib.ListN.{replicate}
use Rattle.picture.specs.InnerRows.{row, run}
use Rattle.picture.proofs.rows.take_row.Given as goal

abbrev pub invariant-loop-c : goal.invariant-loop-c
invariant-loop-c l = l.t ≡ row (replicate 16 0) 0 (run l.block l.from) l.c
