-- `compensation::tiles::interpolate` meets its contract: whole samples are copied, all others mixed.
use mathlib.Core.Path.{sym, ◌∙◌}
use Rattle.compensation.proofs.Mixes.{mixed-block}
use Rattle.compensation.proofs.Taps.{extra-zero}
use Rattle.compensation.proofs.tiles.interpolate.Goals.{Else-extra_of-eq0}
use Rattle.compensation.proofs.tiles.interpolate.Goals as goal

pub returns-then-extra_of-eq0 : goal.returns-then-extra_of-eq0
returns-then-extra_of-eq0 c =
    let a = c.args in
    let none = extra-zero a.p.px a.p.py (sym c.extra_of.ensures.0 ∙ c.if-extra_of-eq0.true) in
    rw (none.0, none.1) c.copy_by_width.ensures

pub returns-else-extra_of-eq0 : goal.returns-else-extra_of-eq0
returns-else-extra_of-eq0 c =
    let a = c.args in
    c.mix_one.ensures ∙ mixed-block a.b.stride a.b.x a.b.y a.b.w a.b.h a.src.now a.stride a.from a.dst.now c.mix_of-mix.ensures
