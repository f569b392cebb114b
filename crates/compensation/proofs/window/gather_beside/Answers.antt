-- `compensation::window::gather_beside` meets its contract: one row a turn, in two halves that lie apart.
use mathlib.Core.Path.{refl, ◌∙◌}
use Prim.Native.Nat.{ℕ, ◌+◌, ◌-◌, ◌*◌}
use native.Mathlib.Omega.{arith}
use lib.ListN.{get_or}
use Rattle.picture.specs.InnerRows.{run}
use Rattle.compensation.specs.InnerKernel.{run_at, edge_at}
use Rattle.compensation.proofs.Wide.{wide-more, wide-kept, wide-here, wide-there}
use Rattle.compensation.proofs.window.gather_beside.Goals as goal

pub loop-r-preserved : goal.loop-r-preserved
unfolding run_at edge_at
loop-r-preserved c =
    let a = c.args in
    let l = c.loop-r in
    let line = c.near_of.ensures.0 in
    let copied = c.copy_run in
    let filled = c.fill_run in
    let at = l.r * 34 + a.to in
    let rest = l.r * 34 + (17 - a.to) in
    let u = run a.plane.samples.now (c.near_of.result * a.plane.size.width + a.from) in
    let w : ℕ → ℕ = λ k. get_or a.plane.samples.now (c.near_of.result * a.plane.size.width + a.edge) 0 in
    let e = copied.ensures in
    let f = filled.ensures in (
      omega (arith, copied.auto.window, filled.auto.window),
      wide-more
          (wide-kept copied.new.window rest w f (omega arith) (omega arith) (wide-kept l.window at u e (omega arith) (omega arith) l.invariant.1))
          (λ k lk.
          wide-there copied.new.window rest w f (a.to + l.r * 34 + k) (λ j lj q. omega arith)
          ∙ wide-here l.window at u e a.to l.r k refl (omega arith) lk
          ∙ (λ i. run a.plane.samples.now (line i * a.plane.size.width + a.from) k)),
      wide-more
          (wide-kept copied.new.window rest w f (omega arith) (omega arith) (wide-kept l.window at u e (omega arith) (omega arith) l.invariant.2))
          (λ k lk. wide-here copied.new.window rest w f (17 - a.to) l.r k refl (omega (arith, copied.auto.window)) lk ∙ (λ i. get_or a.plane.samples.now (line i * a.plane.size.width + a.edge) 0)),
    )
