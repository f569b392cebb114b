-- `apply::svq3_frame::compensate_chroma` meets its contract: k partitions are in both planes.
use mathlib.Core.Path.{◌≡◌, refl, ap, ◌∙◌}
use mathlib.Core.Bool.{true}
use Prim.Native.Nat.{ℕ}
use native.Mathlib.Omega.{arith}
use lib.ListN.{length}
use Rattle.vectors.specs.Modes.{num_motion_vectors}
use Rattle.apply.specs.Moved.{unit, moved_up_to}
use Rattle.apply.proofs.Partitions.{moved-all-length, moved_more}
use Rattle.apply.proofs.svq3_frame.compensate_chroma.Goals as goal

pub loop-k-init : goal.loop-k-init
unfolding moved_up_to
loop-k-init c = (refl, refl)

pub compensate_pair-requires : goal.compensate_pair-requires
compensate_pair-requires c =
    let l = c.loop-k.invariant in record { index = omega (arith, c.num_motion_vectors-n.ensures); planes_sized = ((ap length l.0 ∙ moved-all-length _ _ _ _ _ _ _ _ ∙ c.requires.planes_sized.0.0, c.requires.planes_sized.0.1), (ap length l.1 ∙ moved-all-length _ _ _ _ _ _ _ _ ∙ c.requires.planes_sized.1.0, c.requires.planes_sized.1.1)) }

pub loop-k-preserved : goal.loop-k-preserved
loop-k-preserved c =
    let a = c.args in
    let l = c.loop-k in (
      moved_more l.k (unit true) a.mb.grid.cols a.mb.grid.rows a.reference.cb.now a.mb.call a.vectors.now a.cb.now l.invariant.0 c.compensate_pair.ensures.cb_after,
      moved_more l.k (unit true) a.mb.grid.cols a.mb.grid.rows a.reference.cr.now a.mb.call a.vectors.now a.cr.now l.invariant.1 c.compensate_pair.ensures.cr_after,
    )

pub returns : goal.returns
returns c =
    let a = c.args in
    let l = c.loop-k in
    let e : l.k ≡ num_motion_vectors a.mb.call.mode = omega (arith, c.num_motion_vectors-n.ensures) in record { cb_after = l.invariant.0 ∙ ap (λ (n : ℕ). moved_up_to n (unit true) a.mb.grid.cols a.mb.grid.rows a.reference.cb.now a.mb.call a.vectors.now a.cb.now) e; cr_after = l.invariant.1 ∙ ap (λ (n : ℕ). moved_up_to n (unit true) a.mb.grid.cols a.mb.grid.rows a.reference.cr.now a.mb.call a.vectors.now a.cr.now) e }

pub num_motion_vectors-n-requires : goal.num_motion_vectors-n-requires
num_motion_vectors-n-requires c = c.args.mb.mode
