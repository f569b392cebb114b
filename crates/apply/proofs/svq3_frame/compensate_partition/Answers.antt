-- `apply::svq3_frame::compensate_partition` meets its contract: the partition lies inside the plane, and its samples are those of the definition.
use mathlib.Core.Path.{refl}
use mathlib.Core.Bool.{false}
use Prim.Native.Nat.{◌<◌}
use native.Mathlib.Omega.{arith}
use Rattle.vectors.proofs.Partitions.{num-most}
use Rattle.apply.proofs.Partitions.{ready, moved}
use Rattle.apply.proofs.svq3_frame.compensate_partition.Goals.{Start}
use Rattle.apply.proofs.svq3_frame.compensate_partition.Goals as goal

-- at most sixteen partitions
sixteen : (s : Start) → s.args.i < 16
sixteen s = omega (arith, num-most s.args.mb.call.mode s.args.mb.mode, s.requires.index)

pub taps_in-t-requires : goal.taps_in-t-requires
taps_in-t-requires c =
    let a = c.args in
    let r = ready false a.mb.call a.i a.mb.grid.cols a.mb.grid.rows c.block_of-b.ensures refl a.mb.within a.mb.mode c.requires.index c.requires.planes_sized.0 c.requires.planes_sized.1 in
    record { width_nonzero = (r.2.columns.0, r.2.columns.1, r.2.lines.0, r.2.lines.1, sixteen (goal.at.taps_in-t-requires c).Start); span = (r.0, r.3, r.4) }

pub invariant_of-plane : goal.invariant_of-plane
invariant_of-plane c =
    let a = c.args in
    record { whole = (ready false a.mb.call a.i a.mb.grid.cols a.mb.grid.rows c.block_of-b.ensures refl a.mb.within a.mb.mode c.requires.index c.requires.planes_sized.0 c.requires.planes_sized.1).2 }

pub compensate_taps-requires : goal.compensate_taps-requires
compensate_taps-requires c =
    let a = c.args in
    let r = ready false a.mb.call a.i a.mb.grid.cols a.mb.grid.rows c.block_of-b.ensures refl a.mb.within a.mb.mode c.requires.index c.requires.planes_sized.0 c.requires.planes_sized.1 in
    (r.0, r.1, c.taps_in-t.ensures.taps_in)

pub returns : goal.returns
returns c =
    let a = c.args in
    let b = c.block_of-b.ensures in
    let r = ready false a.mb.call a.i a.mb.grid.cols a.mb.grid.rows b refl a.mb.within a.mb.mode c.requires.index c.requires.planes_sized.0 c.requires.planes_sized.1 in
    moved false a.mb.call a.i a.mb.grid.cols a.mb.grid.rows b refl a.reference.now a.vectors.now a.pic.now r.0 c.taps_in-t.ensures.placed c.compensate_taps.ensures

pub block_of-b-requires : goal.block_of-b-requires
block_of-b-requires c = c.requires.index

pub overflow_mul-size : goal.overflow_mul-size
overflow_mul-size c = omega (arith, c.args.mb.within.high)
