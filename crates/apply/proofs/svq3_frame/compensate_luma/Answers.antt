-- `apply::svq3_frame::compensate_luma` meets its contract: i partitions are in the plane.
use mathlib.Core.Path.{◌≡◌, refl, ap, ◌∙◌}
use mathlib.Core.Bool.{false}
use Prim.Native.Nat.{ℕ}
use native.Mathlib.Omega.{arith}
use lib.ListN.{length}
use Rattle.vectors.specs.Modes.{num_motion_vectors}
use Rattle.apply.specs.Moved.{unit, moved_up_to}
use Rattle.apply.proofs.Partitions.{moved-all-length, moved_more}
use Rattle.apply.proofs.svq3_frame.compensate_luma.Goals as goal

pub loop-i-init : goal.loop-i-init
unfolding moved_up_to
loop-i-init c = refl

pub compensate_partition-requires : goal.compensate_partition-requires
compensate_partition-requires c =
    let a = c.args in record { index = omega (arith, c.num_motion_vectors-n.ensures); planes_sized = (ap length c.loop-i.invariant ∙ moved-all-length _ _ _ _ _ _ _ _ ∙ c.requires.planes_sized.0, c.requires.planes_sized.1) }

pub loop-i-preserved : goal.loop-i-preserved
loop-i-preserved c =
    let a = c.args in
    moved_more c.loop-i.i (unit false) a.mb.grid.cols a.mb.grid.rows a.reference.now a.mb.call a.vectors.now a.pic.now c.loop-i.invariant c.compensate_partition.ensures

pub returns : goal.returns
returns c =
    let a = c.args in
    let e : c.loop-i.i ≡ num_motion_vectors a.mb.call.mode = omega (arith, c.num_motion_vectors-n.ensures) in
    c.loop-i.invariant ∙ ap (λ (n : ℕ). moved_up_to n (unit false) a.mb.grid.cols a.mb.grid.rows a.reference.now a.mb.call a.vectors.now a.pic.now) e

pub num_motion_vectors-n-requires : goal.num_motion_vectors-n-requires
num_motion_vectors-n-requires c = c.args.mb.mode
