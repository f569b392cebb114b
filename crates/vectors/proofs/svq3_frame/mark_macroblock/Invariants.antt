-- `vectors::svq3_frame::mark_macroblock` paints zeros and marks: after r turns, r rows of each.
use mathlib.Core.Path.{◌≡◌}
use Prim.Native.Nat.{◌*◌}
use lib.IntN.{pos}
use Rattle.picture.specs.Picture.{always}
use Rattle.picture.specs.InnerRows.{rows}
use Rattle.vectors.specs.Stored.{pair_of}
use Rattle.vectors.proofs.svq3_frame.mark_macroblock.Given as goal

abbrev pub invariant-loop-r : goal.invariant-loop-r
invariant-loop-r l =
    (l.mv ≡ rows l.initial.mv (2 * l.stride) (2 * l.x) l.y (pair_of (pos 0) (pos 0)) 8 l.r)
    × (l.marks ≡ rows l.initial.marks l.stride l.x l.y (always 1) 4 l.r)
