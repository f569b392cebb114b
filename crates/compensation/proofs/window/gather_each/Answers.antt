-- `compensation::window::gather_each` meets its contract: one row of taps a turn.
use mathlib.Core.Path.{◌∙◌}
use Prim.Native.Nat.{◌*◌}
use native.Mathlib.Omega.{arith}
use Rattle.compensation.specs.InnerKernel.{picked, picked_at}
use Rattle.compensation.proofs.Wide.{wide-more, wide-kept, wide-here}
use Rattle.compensation.proofs.window.gather_each.Goals as goal

pub loop-r-preserved : goal.loop-r-preserved
unfolding picked_at
loop-r-preserved c =
    let a = c.args in
    let l = c.loop-r in
    let near = c.near_of in
    let u = picked a.plane.samples.now (near.result * a.plane.size.width) a.columns.now in
    let e = c.gather_row.ensures in (
      omega (arith, c.gather_row.auto.window),
      wide-more
          (wide-kept l.window (l.r * 34) u e (omega arith) (omega arith) l.invariant.1)
          (λ k lk. wide-here l.window (l.r * 34) u e 0 l.r k (omega arith) (omega arith) lk ∙ (λ i. picked a.plane.samples.now (near.ensures.0 i * a.plane.size.width) a.columns.now k)),
    )
