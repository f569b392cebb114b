-- `run::calls::read_call`: each number in its turn.
use mathlib.Core.Path.{sym, ◌∙◌}
use Rattle.refusal.proofs.Answered.{handed}
use Rattle.run.proofs.Listing.{no-column, no_row, no_mode, whole}
use Rattle.run.proofs.calls.read_call.Goals as goal

pub returns-in_err-column : goal.returns-in_err-column
returns-in_err-column c =
    let a = c.args in
    handed _ _ c.from_residual.ensures ∙ no-column a.list.now a.at _ (sym c.in_err-column.was ∙ c.read_number.ensures)

pub returns-in_err-row : goal.returns-in_err-row
returns-in_err-row c =
    let a = c.args in
    handed _ _ c.from_residual-in_err-row.ensures ∙ no_row a.list.now a.at _ _ (sym c.in_ok-column.was ∙ c.read_number.ensures) _ (sym c.in_err-row.was ∙ c.read_number-2.ensures)

pub returns-in_err-mode : goal.returns-in_err-mode
returns-in_err-mode c =
    let a = c.args in
    handed _ _ c.from_residual-in_err-mode.ensures ∙ no_mode a.list.now a.at _ _ (sym c.in_ok-column.was ∙ c.read_number.ensures) _ _ (sym c.in_ok-row.was ∙ c.read_number-2.ensures) _ (sym c.in_err-mode.was ∙ c.read_number-3.ensures)

pub returns : goal.returns
returns c =
    let a = c.args in
    whole a.list.now a.at _ _ (sym c.in_ok-column.was ∙ c.read_number.ensures) _ _ (sym c.in_ok-row.was ∙ c.read_number-2.ensures) _ _ (sym c.in_ok-mode.was ∙ c.read_number-3.ensures)
