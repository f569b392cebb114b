-- `picture::rows::store_row` meets its contract: what the row held is stored, one sample a turn.
use mathlib.Core.Path.{◌≡◌}
use lib.ListN.{length}
use Rattle.picture.specs.InnerRows.{row, run}
use Rattle.picture.proofs.rows.store_row.Given as goal

abbrev pub invariant-loop-c : goal.invariant-loop-c
invariant-loop-c l = (length l.plane ≡ length l.initial.plane) × (l.plane ≡ row l.initial.plane l.at (run l.t 0) l.c)
