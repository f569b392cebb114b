-- `transcript::parse::read_field` answers `field`: what `read_number` answered, where it is at most the limit.
use mathlib.Core.Path.{sym, ◌∙◌}
use Rattle.refusal.proofs.Answered.{handed}
use Rattle.transcript.proofs.Reading.{field-within, field-beyond, field-refused}
use Rattle.transcript.proofs.parse.read_field.Goals as goal

pub returns-then-v-most : goal.returns-then-v-most
returns-then-v-most c =
    let a = c.args in
    field-within a.at a.most _ _ _ (sym c.in_ok-v.was ∙ c.read_number.ensures) c.if-v-most.true

pub returns-else-v-most : goal.returns-else-v-most
returns-else-v-most c =
    let a = c.args in
    field-beyond a.at a.most _ _ _ (sym c.in_ok-v.was ∙ c.read_number.ensures) c.if-v-most.false

pub returns-in_err-v : goal.returns-in_err-v
returns-in_err-v c =
    let a = c.args in
    handed _ _ c.from_residual.ensures ∙ field-refused a.at a.most _ _ (sym c.in_err-v.was ∙ c.read_number.ensures)
