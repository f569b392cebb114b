-- `reading::svq3_frame::read_vectors`: what is still to be read, joined to what was read, is the whole.
use mathlib.Core.Path.{refl, sym, ap, ◌∙◌, transport}
use Prim.Native.Nat.{ℕ, ◌*◌, ◌/◌, ◌<◌}
use native.Mathlib.Omega.{arith}
use Rattle.refusal.proofs.Answered.{handed}
use Rattle.bits.specs.Bits.{bit_list}
use Rattle.vectors.specs.Modes.{partition_width, partition_height, num_motion_vectors}
use Rattle.vectors.proofs.Partitions.{num-most}
use Rattle.picture.specs.InnerPicture.{Within}
use Rattle.picture.specs.InnerField.{lent_field}
use Rattle.vectors.specs.InnerWindow.{Follows}
use Rattle.vectors.proofs.Following.{macroblock-cells, follows-start}
use Rattle.reading.specs.Read.{at_first}
use Rattle.reading.proofs.Steps.{begins, goes_on, stops, ends}
use Rattle.reading.proofs.svq3_frame.read_vectors.Goals.{Start}
use Rattle.reading.proofs.svq3_frame.read_vectors.Goals as goal

-- the macroblock lies in the grid of the cells
within-cells : (s : Start) → Within s.args.cells.grid.cols s.args.cells.grid.rows s.args.motion.mb.call.column s.args.motion.mb.call.row
within-cells s = let a = s.args in transport (λ i. Within (sym s.requires.cells_all.0 i).cols (sym s.requires.cells_all.0 i).rows a.motion.mb.call.column a.motion.mb.call.row) a.motion.mb.within

pub load-requires : goal.load-requires
load-requires c = let g = within-cells (goal.at.load-requires c).Start in (g.down, macroblock-cells g c.requires.cells_all.1)

pub loop-i-init : goal.loop-i-init
unfolding at_first
loop-i-init c =
    let a = c.args in
    let q = a.cells in
    let call = a.motion.mb.call in
    let f = lent_field q.grid.cols q.grid.rows q.mv.now q.marks.now in
    let wide = partition_width call.mode / 4 in
    let high = partition_height call.mode / 4 in
    let here = follows-start (within-cells (goal.at.loop-i-init c).Start) (q.paired ∙ ap (λ (n : ℕ). 2 * n) c.requires.cells_all.1) c.requires.cells_all.1 c.load.ensures wide high in
    let there = transport (λ i. Follows wide high f (c.requires.cells_all.0 i).cols (c.requires.cells_all.0 i).rows call.column call.row c.load.new.self) here in
    (at_first f, begins a.motion c.num_motion_vectors-n.result (at_first f) (bit_list a.bits.bytes.now) a.at, record { count = refl; stored = c.requires.none; follows = there })

pub read_partition-requires : goal.read_partition-requires
unfolding at_first
read_partition-requires c =
    let l = c.loop-i in
    let e = c.num_motion_vectors-n.ensures in
    let among : l.i < num_motion_vectors c.args.motion.mb.call.mode = omega (arith, c.loop-i-test.true, e) in
    let few = num-most c.args.motion.mb.call.mode c.args.motion.mb.mode in
    record { index = (among, omega (arith, among, few, l.invariant.1.few, l.invariant.2.count)); holds = (l.invariant.0, l.invariant.2) }

pub loop-i-preserved : goal.loop-i-preserved
loop-i-preserved c =
    let l = c.loop-i in
    goes_on _ l.invariant.1 _ (c.read_partition.ensures l.invariant.0 l.invariant.2) _ _ c.loop-i-test.true c.in_ok-clipped.was

pub returns-in_err-clipped : goal.returns-in_err-clipped
returns-in_err-clipped c =
    let l = c.loop-i in
    rw (handed _ _ c.from_residual.ensures, ← c.num_motion_vectors-n.ensures) (stops _ l.invariant.1 _ (c.read_partition.ensures l.invariant.0 l.invariant.2) _ _ c.loop-i-test.true c.in_err-clipped.was)

pub returns : goal.returns
returns c =
    let l = c.loop-i in
    rw (← c.num_motion_vectors-n.ensures) (ends _ l.invariant.1 _ _ c.loop-i-test.false l.invariant.2.count l.invariant.2.stored)
