-- `levels::svq3_cbp::read_cbp_inter` answers `pattern` at its place: the code's answer, taken through the table.
use mathlib.Core.Path.{sym, ◌∙◌}
use Rattle.refusal.proofs.Answered.{handed}
use Rattle.levels.proofs.Patterns.{pattern-entry, pattern-missing, pattern-refused}
use Rattle.levels.proofs.svq3_cbp.read_cbp_inter.Goals as goal

pub returns-in_err-code : goal.returns-in_err-code
returns-in_err-code c = handed _ _ c.from_residual.ensures ∙ pattern-refused c.args.at _ _ (sym c.in_err-code.was ∙ c.read_universal_code.ensures)

pub returns-in_err-cbp : goal.returns-in_err-cbp
returns-in_err-cbp c =
    handed _ _ c.from_residual-in_err-cbp.ensures
    ∙ pattern-missing c.args.at _ _ _ _ (sym c.in_ok-code.was ∙ c.read_universal_code.ensures) (sym c.in_err-cbp.was ∙ c.ok_or.ensures.value ∙ rw c.inter_cbp.ensures)

pub returns : goal.returns
returns c = pattern-entry c.args.at _ _ _ _ (sym c.in_ok-code.was ∙ c.read_universal_code.ensures) (sym c.in_ok-cbp.was ∙ c.ok_or.ensures.value ∙ rw c.inter_cbp.ensures)
