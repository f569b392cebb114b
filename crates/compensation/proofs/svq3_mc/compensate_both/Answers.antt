-- `compensation::svq3_mc::compensate_both` meets its contract: read straight from the planes, or across an edge.
use mathlib.Core.Path.{◌∙◌}
use native.Mathlib.Omega.{arith}
use mir.Syntax.{w64}
use Rattle.ints.proofs.Fits.{cast_unsigned}
use Rattle.compensation.proofs.Taps.{taps-column, taps-line, taps-start, taps-room, taps-block}
use Rattle.compensation.proofs.svq3_mc.compensate_both.Goals as goal

pub interpolate_pair-requires : goal.interpolate_pair-requires
interpolate_pair-requires c =
    let p = c.requires.span in
    let q = c.requires.whole in
    let i = c.if-t.true in record { span = (p.0, p.1, p.2); taps = (taps-room c.args.t q.0 p.0 q.2 i c.args.rcb.now q.0 p.3, taps-room c.args.t q.0 p.0 q.2 i c.args.rcr.now q.1 p.3) }

pub returns-then-t : goal.returns-then-t
returns-then-t c =
    let a = c.args in
    let p = c.requires.span in
    let q = c.requires.whole in
    let i = c.if-t.true in
    record { cb_after = c.interpolate_pair.ensures.cb_after ∙ taps-block a.t q.0 p.0 q.2 i a.rcb.now p.3 a.b.stride a.b.x a.b.y a.cb.now; cr_after = c.interpolate_pair.ensures.cr_after ∙ taps-block a.t q.0 p.0 q.2 i a.rcr.now p.3 a.b.stride a.b.x a.b.y a.cr.now }

pub overflow_cast-from : goal.overflow_cast-from
overflow_cast-from c = cast_unsigned w64 (taps-line c.args.t c.requires.whole.0 c.requires.span.0 c.requires.whole.2 c.if-t.true).0 (omega (arith, taps-start c.args.t c.requires.whole.0 c.requires.span.0 c.requires.whole.2 c.if-t.true))

pub overflow_mul-from : goal.overflow_mul-from
overflow_mul-from c = omega (arith, taps-start c.args.t c.requires.whole.0 c.requires.span.0 c.requires.whole.2 c.if-t.true)

pub overflow_cast-from-then-t : goal.overflow_cast-from-then-t
overflow_cast-from-then-t c = cast_unsigned w64 (taps-column c.args.t c.requires.whole.0 c.requires.span.0 c.requires.whole.2 c.if-t.true).0 (omega (arith, taps-start c.args.t c.requires.whole.0 c.requires.span.0 c.requires.whole.2 c.if-t.true))

pub overflow_add-from : goal.overflow_add-from
overflow_add-from c = omega (arith, taps-start c.args.t c.requires.whole.0 c.requires.span.0 c.requires.whole.2 c.if-t.true)
