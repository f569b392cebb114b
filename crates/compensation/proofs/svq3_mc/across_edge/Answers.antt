-- `compensation::svq3_mc::across_edge` meets its contract: the gathered taps are those of the endless plane.
use mathlib.Core.Path.{◌≡◌, ◌∙◌, ap}
use Prim.Native.Nat.{◌+◌, ◌≤◌}
use native.Mathlib.Omega.{arith}
use mir.Syntax.{w64}
use mir.Facts.{to_z-of_z}
use Rattle.picture.proofs.Laws.{painted-values}
use Rattle.compensation.specs.Formula.{formula}
use Rattle.compensation.specs.InnerKernel.{origin_of, window_block}
use Rattle.compensation.proofs.Taps.{origin-le, extra-le}
use Rattle.compensation.proofs.Wide.{wide-sample}
use Rattle.compensation.proofs.svq3_mc.across_edge.Goals.{After-origin-by}
use Rattle.compensation.proofs.svq3_mc.across_edge.Goals as goal

-- the place, held
held : (c : After-origin-by) → let a = c.args in (c.origin-bx.result ≡ origin_of a.plane.size.width a.t.ox) × (c.origin-by.result ≡ origin_of a.plane.size.height a.t.oy)
held c =
    let a = c.args in
    let x = to_z-of_z {w = w64} {z = a.t.ox} (record { sfits = omega arith }) in
    let y = to_z-of_z {w = w64} {z = a.t.oy} (record { sfits = omega arith }) in
    (c.origin-bx.ensures ∙ ap (origin_of a.plane.size.width) x, c.origin-by.ensures ∙ ap (origin_of a.plane.size.height) y)

-- no further than the last column and row
near : (c : After-origin-by) → let a = c.args in (c.origin-bx.result ≤ a.plane.size.width + 16) × (c.origin-by.result ≤ a.plane.size.height + 16)
near c =
    let a = c.args in
    (rw (held c).0 (origin-le a.plane.size.width a.t.ox (omega arith)), rw (held c).1 (origin-le a.plane.size.height a.t.oy (omega arith)))

pub gather-from-requires : goal.gather-from-requires
gather-from-requires c =
    let n = near (goal.at.gather-from-requires c).After-origin-by in record { h_in_bounds = (omega arith, omega arith); place = (n.0, n.1) }

pub interpolate-requires : goal.interpolate-requires
interpolate-requires c =
    let p = c.requires in
    let g = c.gather-from in
    (p.0, p.1, omega (arith, extra-le c.args.t.phases.px c.args.t.phases.py, g.auto.window, g.ensures.0))

pub returns : goal.returns
returns c =
    let a = c.args in
    let g = c.gather-from in
    rw (← (held (goal.at.returns c).After-origin-by).0, ← (held (goal.at.returns c).After-origin-by).1)
    (c.interpolate.ensures ∙ painted-values a.b.stride a.b.x a.b.y a.b.w a.b.h _ (window_block (formula a.t.phases.px a.t.phases.py) a.plane.samples.now a.plane.size.width a.plane.size.height c.origin-bx.result c.origin-by.result) a.dst.now
    (λ r k l m. wide-sample (formula a.t.phases.px a.t.phases.py) a.plane.samples.now g.new.window a.plane.size.width a.plane.size.height c.origin-bx.result c.origin-by.result g.result a.b.h r k g.ensures.1 l (omega (arith, m, c.requires.0))))
