-- `apply::svq3_recon::add_luma`: quadrant after quadrant.
use mathlib.Core.Path.{◌≡◌, ap, ◌∙◌}
use Prim.Native.Nat.{ℕ, ◌*◌}
use native.Mathlib.Omega.{arith}
use Rattle.apply.specs.Blocks.{luma_up_to}
use Rattle.apply.proofs.Residuals.{one-quadrant, no-quadrant}
use Rattle.apply.proofs.svq3_recon.add_luma.Goals as goal

pub loop-q-init : goal.loop-q-init
loop-q-init c = no-quadrant c.args.residual.grid.cols c.args.residual.head c.args.residual.levels.now c.args.pic.now

pub add_quadrant-requires : goal.add_quadrant-requires
add_quadrant-requires c = record { quadrant = c.loop-q-test.true; pic_len = c.loop-q.auto.pic ∙ c.requires }

pub loop-q-preserved : goal.loop-q-preserved
loop-q-preserved c =
    let a = c.args in
    one-quadrant a.residual.grid.cols a.residual.head a.residual.levels.now a.pic.now c.loop-q.q c.loop-q-test.true c.loop-q.invariant c.add_quadrant.ensures

pub returns : goal.returns
returns c =
    let a = c.args in
    let e : 4 * c.loop-q.q ≡ 16 = omega arith in
    c.loop-q.invariant ∙ ap (λ (n : ℕ). luma_up_to n a.residual.grid.cols a.residual.head a.residual.levels.now a.pic.now) e
