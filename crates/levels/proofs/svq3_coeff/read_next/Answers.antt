-- `levels::svq3_coeff::read_next`: the code that is read, with a window behind it.
use mathlib.Core.Path.{sym, subst, ◌∙◌}
use Rattle.refusal.proofs.Answered.{handed}
use Rattle.bits.specs.Bits.{bit_list}
use Rattle.levels.specs.InnerLevels.{Stepped}
use Rattle.levels.proofs.Shorts.{level-stepped, refused-stepped}
use Rattle.levels.proofs.svq3_coeff.read_next.Goals as goal

pub returns-in_err-said : goal.returns-in_err-said
returns-in_err-said c =
    let a = c.args in
    subst (Stepped a.book (bit_list a.bits.bytes.now) a.at) (sym (handed _ _ c.from_residual.ensures)) (refused-stepped a.book (bit_list a.bits.bytes.now) a.at _ (sym c.in_err-said.was ∙ c.read_level.ensures))

pub returns : goal.returns
returns c =
    let a = c.args in
    level-stepped a.book (bit_list a.bits.bytes.now) a.at _ (sym c.in_ok-said.was ∙ c.read_level.ensures) c.window_at.ensures
