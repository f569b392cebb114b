-- `compensation::svq3_mc::compensate_taps` meets its contract: read straight from the plane, or across an edge.
use mathlib.Core.Path.{refl, ◌∙◌}
use native.Mathlib.Omega.{arith}
use mir.Syntax.{w64}
use Rattle.ints.proofs.Fits.{cast_unsigned}
use Rattle.compensation.proofs.Taps.{taps-column, taps-line, taps-start, taps-room, taps-block}
use Rattle.compensation.proofs.svq3_mc.compensate_taps.Goals as goal

pub interpolate-requires : goal.interpolate-requires
interpolate-requires c =
    let p = c.requires in
    let w = c.args.plane.whole in
    (p.0, p.1, taps-room c.args.t w p.0 p.2 c.if-t.true c.args.plane.samples.now w refl)

pub returns-then-t : goal.returns-then-t
returns-then-t c =
    let a = c.args in
    c.interpolate.ensures ∙ taps-block a.t c.args.plane.whole c.requires.0 c.requires.2 c.if-t.true a.plane.samples.now refl a.b.stride a.b.x a.b.y a.dst.now

pub overflow_cast-from : goal.overflow_cast-from
overflow_cast-from c = cast_unsigned w64 (taps-line c.args.t c.args.plane.whole c.requires.0 c.requires.2 c.if-t.true).0 (omega (arith, taps-start c.args.t c.args.plane.whole c.requires.0 c.requires.2 c.if-t.true))

pub overflow_mul-from : goal.overflow_mul-from
overflow_mul-from c = omega (arith, taps-start c.args.t c.args.plane.whole c.requires.0 c.requires.2 c.if-t.true)

pub overflow_cast-from-then-t : goal.overflow_cast-from-then-t
overflow_cast-from-then-t c = cast_unsigned w64 (taps-column c.args.t c.args.plane.whole c.requires.0 c.requires.2 c.if-t.true).0 (omega (arith, taps-start c.args.t c.args.plane.whole c.requires.0 c.requires.2 c.if-t.true))

pub overflow_add-from : goal.overflow_add-from
overflow_add-from c = omega (arith, taps-start c.args.t c.args.plane.whole c.requires.0 c.requires.2 c.if-t.true)
