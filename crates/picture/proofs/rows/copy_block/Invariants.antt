-- `picture::rows::copy_block` meets its contract. Assumes nothing.
use mathlib.Core.Path.{◌≡◌}
use lib.ListN.{length}
use Rattle.picture.specs.Picture.{seen}
use Rattle.picture.specs.InnerRows.{rows}
use Rattle.picture.proofs.rows.copy_block.Given as goal

abbrev pub invariant-loop-r : goal.invariant-loop-r
invariant-loop-r l = (length l.plane ≡ length l.initial.plane) × (l.plane ≡ rows l.initial.plane l.b.stride l.b.x l.b.y (seen l.other l.b.stride l.b.x l.b.y) l.b.w l.r)
