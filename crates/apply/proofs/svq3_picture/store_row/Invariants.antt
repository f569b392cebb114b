-- `apply::svq3_picture::store_row` stores a row of pairs: after c cells, the first 2 · c numbers.
use mathlib.Core.Path.{◌≡◌}
use Prim.Native.Nat.{◌*◌}
use Rattle.picture.specs.InnerRows.{row}
use Rattle.apply.specs.InnerCells.{own_number}
use Rattle.apply.proofs.svq3_picture.store_row.Given as goal

abbrev pub invariant-loop-c : goal.invariant-loop-c
invariant-loop-c l = l.mv ≡ row l.initial.mv l.at (own_number l.vectors l.four) (2 * l.c)
