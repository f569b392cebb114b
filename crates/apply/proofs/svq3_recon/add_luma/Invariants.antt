-- `apply::svq3_recon::add_luma`: quadrant after quadrant.
use mathlib.Core.Path.{◌≡◌}
use Prim.Native.Nat.{◌*◌}
use Rattle.apply.specs.Blocks.{luma_up_to}
use Rattle.apply.proofs.svq3_recon.add_luma.Given as goal

abbrev pub invariant-loop-q : goal.invariant-loop-q
invariant-loop-q l = l.pic ≡ luma_up_to (4 * l.q) l.residual.grid.cols l.residual.head l.residual.levels.now l.initial.pic
