-- `compensation::tiles::interpolate_pair` meets its contract: whole samples are copied, all others mixed.
use mathlib.Core.Path.{sym, ◌∙◌}
use Rattle.compensation.proofs.Mixes.{mixed-block}
use Rattle.compensation.proofs.Taps.{extra-zero}
use Rattle.compensation.proofs.tiles.interpolate_pair.Goals.{Else-extra_of-eq0}
use Rattle.compensation.proofs.tiles.interpolate_pair.Goals as goal

pub returns-then-extra_of-eq0 : goal.returns-then-extra_of-eq0
returns-then-extra_of-eq0 c =
    let a = c.args in
    let none = extra-zero a.p.px a.p.py (sym c.extra_of.ensures.0 ∙ c.if-extra_of-eq0.true) in
    rw (none.0, none.1) (record { cb_after = c.copy_by_width.ensures; cr_after = c.copy_by_width-then-extra_of-eq0.ensures })

pub returns-else-extra_of-eq0 : goal.returns-else-extra_of-eq0
returns-else-extra_of-eq0 c =
    let a = c.args in
    let m = c.mix_of-mix.ensures in
    record {
      cb_after = c.mix_pair.ensures.cb_after ∙ mixed-block a.b.stride a.b.x a.b.y a.b.w a.b.h a.rcb.now a.b.stride a.from a.cb.now m;
      cr_after = c.mix_pair.ensures.cr_after ∙ mixed-block a.b.stride a.b.x a.b.y a.b.w a.b.h a.rcr.now a.b.stride a.from a.cr.now m;
    }
