-- `state::ask_rest` meets its contract: each question by its answer, in order.
use mathlib.Core.Path.{refl, sym, ◌∙◌}
use Rattle.refusal.proofs.Answered.{handed}
use Rattle.state.proofs.Laws.{rest-is}
use Rattle.state.proofs.ask_rest.Goals as goal

pub returns-in_err-ask : goal.returns-in_err-ask
returns-in_err-ask c =
    let a = c.args in
    handed _ _ c.from_residual.ensures ∙ sym (rest-is a.grid.cols a.grid.rows a.call a.quantiser a.size a.place a.free _ _ _ (sym c.in_err-ask.was ∙ c.ask.ensures ∙ rw c.call_right.ensures) refl refl)

pub returns-in_err-ask_quantiser : goal.returns-in_err-ask_quantiser
returns-in_err-ask_quantiser c =
    let a = c.args in
    handed _ _ c.from_residual-in_err-ask_quantiser.ensures
    ∙ sym (rest-is a.grid.cols a.grid.rows a.call a.quantiser a.size a.place a.free _ _ _ (sym c.in_ok-ask.was ∙ c.ask.ensures ∙ rw c.call_right.ensures) (sym c.in_err-ask_quantiser.was ∙ c.ask_quantiser.ensures) refl)

pub returns-in_err-ask_place : goal.returns-in_err-ask_place
returns-in_err-ask_place c =
    let a = c.args in
    handed _ _ c.from_residual-in_err-ask_place.ensures
    ∙ sym (rest-is a.grid.cols a.grid.rows a.call a.quantiser a.size a.place a.free _ _ _ (sym c.in_ok-ask.was ∙ c.ask.ensures ∙ rw c.call_right.ensures) (sym c.in_ok-ask_quantiser.was ∙ c.ask_quantiser.ensures) (sym c.in_err-ask_place.was ∙ c.ask_place.ensures))

pub returns : goal.returns
returns c =
    let a = c.args in
    c.ask-2.ensures
    ∙ sym (rest-is a.grid.cols a.grid.rows a.call a.quantiser a.size a.place a.free _ _ _ (sym c.in_ok-ask.was ∙ c.ask.ensures ∙ rw c.call_right.ensures) (sym c.in_ok-ask_quantiser.was ∙ c.ask_quantiser.ensures) (sym c.in_ok-ask_place.was ∙ c.ask_place.ensures))
