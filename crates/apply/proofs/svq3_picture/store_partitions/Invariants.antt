-- `apply::svq3_picture::store_partitions`: after r turns, r rows of cells have their own partitions' vectors, and marks 1.
use mathlib.Core.Path.{◌≡◌}
use Prim.Native.Nat.{◌*◌, ◌/◌, ◌^◌}
use Rattle.picture.specs.Picture.{always}
use Rattle.picture.specs.InnerRows.{rows}
use Rattle.apply.specs.InnerCells.{own_number}
use Rattle.apply.proofs.svq3_picture.store_partitions.Given as goal

abbrev pub invariant-loop-r : goal.invariant-loop-r
invariant-loop-r l =
    (l.mv ≡ rows l.initial.mv (2 * l.stride) (2 * l.x) l.y (λ d. own_number l.vectors (l.whose / 2 ^ (16 * d))) 8 l.r)
    × (l.marks ≡ rows l.initial.marks l.stride l.x l.y (always 1) 4 l.r)
