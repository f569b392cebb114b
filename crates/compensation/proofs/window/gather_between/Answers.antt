-- `compensation::window::gather_between` meets its contract: one row a turn.
use mathlib.Core.Path.{◌∙◌}
use Prim.Native.Nat.{◌+◌, ◌*◌}
use native.Mathlib.Omega.{arith}
use Rattle.picture.specs.InnerRows.{run}
use Rattle.compensation.specs.InnerKernel.{run_at}
use Rattle.compensation.proofs.Wide.{wide-more, wide-kept, wide-here}
use Rattle.compensation.proofs.window.gather_between.Goals as goal

pub loop-r-preserved : goal.loop-r-preserved
unfolding run_at
loop-r-preserved c =
    let a = c.args in
    let l = c.loop-r in
    let line = c.near_of.ensures.0 in
    let at = l.r * 34 in
    let u = run a.plane.samples.now (c.near_of.result * a.plane.size.width + a.from) in
    let e = c.copy_run.ensures in (
      omega (arith, c.copy_run.auto.window),
      wide-more
          (wide-kept l.window at u e (omega arith) (omega arith) l.invariant.1)
          (λ k lk. wide-here l.window at u e 0 l.r k (omega arith) (omega arith) lk ∙ (λ i. run a.plane.samples.now (line i * a.plane.size.width + a.from) k)),
    )
