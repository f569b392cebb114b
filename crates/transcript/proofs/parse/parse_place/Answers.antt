-- `transcript::parse::parse_place`: each number's answer, taken on to the whole.
use mathlib.Core.Path.{sym, ◌∙◌}
use Rattle.refusal.proofs.Answered.{handed}
use Rattle.transcript.proofs.Places.{no-column, no_row, no_mode, outside, is-skip, is-coded}
use Rattle.transcript.proofs.parse.parse_place.Goals as goal

pub returns-in_err-column : goal.returns-in_err-column
returns-in_err-column c =
    let a = c.args in
    handed _ _ c.from_residual.ensures ∙ no-column a.grid.cols a.grid.rows a.bytes.now a.at _ (sym c.in_err-column.was ∙ c.read_number.ensures)

pub returns-in_err-row : goal.returns-in_err-row
returns-in_err-row c =
    let a = c.args in
    handed _ _ c.from_residual-in_err-row.ensures ∙ no_row a.grid.cols a.grid.rows a.bytes.now a.at _ _ (sym c.in_ok-column.was ∙ c.read_number.ensures) _ (sym c.in_err-row.was ∙ c.read_number-2.ensures)

pub returns-in_err-mode : goal.returns-in_err-mode
returns-in_err-mode c =
    let a = c.args in
    handed _ _ c.from_residual-in_err-mode.ensures ∙ no_mode a.grid.cols a.grid.rows a.bytes.now a.at _ _ (sym c.in_ok-column.was ∙ c.read_number.ensures) _ _ (sym c.in_ok-row.was ∙ c.read_number-2.ensures) _ (sym c.in_err-mode.was ∙ c.read_number-3.ensures)

pub returns-then-mode-eq0 : goal.returns-then-mode-eq0
returns-then-mode-eq0 c =
    let a = c.args in
    is-skip a.grid.cols a.grid.rows a.bytes.now a.at _ _ (sym c.in_ok-column.was ∙ c.read_number.ensures) _ _ (sym c.in_ok-row.was ∙ c.read_number-2.ensures) _ _ (sym c.in_ok-mode.was ∙ c.read_number-3.ensures) c.if-column-grid.true c.if-mode-eq0.true

pub returns-else-mode-eq0 : goal.returns-else-mode-eq0
returns-else-mode-eq0 c =
    let a = c.args in
    is-coded a.grid.cols a.grid.rows a.bytes.now a.at _ _ (sym c.in_ok-column.was ∙ c.read_number.ensures) _ _ (sym c.in_ok-row.was ∙ c.read_number-2.ensures) _ _ (sym c.in_ok-mode.was ∙ c.read_number-3.ensures) c.if-column-grid.true c.if-mode-eq0.false _ c.place_head.ensures

pub returns-else-column-grid : goal.returns-else-column-grid
returns-else-column-grid c =
    let a = c.args in
    outside a.grid.cols a.grid.rows a.bytes.now a.at _ _ (sym c.in_ok-column.was ∙ c.read_number.ensures) _ _ (sym c.in_ok-row.was ∙ c.read_number-2.ensures) _ _ (sym c.in_ok-mode.was ∙ c.read_number-3.ensures) c.if-column-grid.false
