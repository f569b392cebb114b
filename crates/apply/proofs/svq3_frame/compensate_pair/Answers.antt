-- `apply::svq3_frame::compensate_pair` meets its contract: both planes are moved by the same taps.
use mathlib.Core.Path.{refl}
use mathlib.Core.Bool.{true}
use Prim.Native.Nat.{◌<◌}
use native.Mathlib.Omega.{arith}
use Rattle.vectors.proofs.Partitions.{num-most}
use Rattle.apply.proofs.Partitions.{ready, moved}
use Rattle.apply.proofs.svq3_frame.compensate_pair.Goals.{Start}
use Rattle.apply.proofs.svq3_frame.compensate_pair.Goals as goal

-- at most sixteen partitions
sixteen : (s : Start) → s.args.i < 16
sixteen s = omega (arith, num-most s.args.mb.call.mode s.args.mb.mode, s.requires.index)

pub taps_in-t-requires : goal.taps_in-t-requires
taps_in-t-requires c =
    let a = c.args in
    let r = ready true a.mb.call a.i a.mb.grid.cols a.mb.grid.rows c.block_of-b.ensures refl a.mb.within a.mb.mode c.requires.index c.requires.planes_sized.0.0 c.requires.planes_sized.0.1 in
    record { width_nonzero = (r.2.columns.0, r.2.columns.1, r.2.lines.0, r.2.lines.1, sixteen (goal.at.taps_in-t-requires c).Start); span = (r.0, r.3, r.4) }

pub compensate_both-requires : goal.compensate_both-requires
compensate_both-requires c =
    let a = c.args in
    let b = c.block_of-b.ensures in
    let r = ready true a.mb.call a.i a.mb.grid.cols a.mb.grid.rows b refl a.mb.within a.mb.mode c.requires.index c.requires.planes_sized.0.0 c.requires.planes_sized.0.1 in
    let q = ready true a.mb.call a.i a.mb.grid.cols a.mb.grid.rows b refl a.mb.within a.mb.mode c.requires.index c.requires.planes_sized.1.0 c.requires.planes_sized.1.1 in
    record { span = (r.0, r.1, q.1, refl); whole = (r.2, q.2, c.taps_in-t.ensures.taps_in) }

pub returns : goal.returns
returns c =
    let a = c.args in
    let b = c.block_of-b.ensures in
    let span = (ready true a.mb.call a.i a.mb.grid.cols a.mb.grid.rows b refl a.mb.within a.mb.mode c.requires.index c.requires.planes_sized.0.0 c.requires.planes_sized.0.1).0 in
    let t = c.taps_in-t.ensures.placed in
    record { cb_after = moved true a.mb.call a.i a.mb.grid.cols a.mb.grid.rows b refl a.reference.cb.now a.vectors.now a.cb.now span t c.compensate_both.ensures.cb_after; cr_after = moved true a.mb.call a.i a.mb.grid.cols a.mb.grid.rows b refl a.reference.cr.now a.vectors.now a.cr.now span t c.compensate_both.ensures.cr_after }

pub block_of-b-requires : goal.block_of-b-requires
block_of-b-requires c = c.requires.index

pub overflow_mul-size : goal.overflow_mul-size
overflow_mul-size c = omega (arith, c.args.mb.within.high)
