-- `state::ask_start` meets its contract: each question by its answer, in order.
use mathlib.Core.Path.{◌≡◌, sym, ◌∙◌}
use mathlib.Core.Bool.{true}
use Rattle.refusal.proofs.Answered.{handed}
use Rattle.state.specs.Questions.{ask_start, grid_right, state_right, reference_there}
use Rattle.state.proofs.Laws.{then-is, ask-yes}
use Rattle.state.proofs.ask_start.Goals.{In_ok-ask, In_ok-ask-2, In_ok-ask-3}
use Rattle.state.proofs.ask_start.Goals as goal

grid-yes : (c : In_ok-ask) → grid_right c.args.grid.cols c.args.grid.rows ≡ true
grid-yes c = sym c.grid_right.ensures ∙ (ask-yes _ _ _ (sym c.ask.ensures ∙ c.in_ok-ask.was)).0

state-yes : (c : In_ok-ask-2) → state_right c.args.grid.cols c.args.grid.rows c.args.l ≡ true
state-yes c = sym c.state_right.ensures ∙ (ask-yes _ _ _ (sym c.ask-2.ensures ∙ c.in_ok-ask-2.was)).0

reference-yes : (c : In_ok-ask-3) → reference_there c.args.l ≡ true
reference-yes c = sym c.reference_there.ensures ∙ (ask-yes _ _ _ (sym c.ask-3.ensures ∙ c.in_ok-ask-3.was)).0

pub state_right-requires : goal.state_right-requires
state_right-requires c = grid-yes (goal.at.state_right-requires c).In_ok-ask

pub planes_right-requires : goal.planes_right-requires
planes_right-requires c = grid-yes (goal.at.planes_right-requires c).In_ok-ask

pub returns-in_err-ask : goal.returns-in_err-ask
unfolding ask_start
returns-in_err-ask c = handed _ _ c.from_residual.ensures ∙ rw (sym c.grid_right.ensures) (sym (then-is _ _ _ _ (sym c.in_err-ask.was ∙ c.ask.ensures)))

pub returns-in_err-ask-2 : goal.returns-in_err-ask-2
unfolding ask_start
returns-in_err-ask-2 c =
    let w = (goal.at.returns-in_err-ask-2 c).In_ok-ask in
    handed _ _ c.from_residual-in_err-ask-2.ensures ∙ rw (grid-yes w, sym c.state_right.ensures) (sym (then-is _ _ _ _ (sym c.in_err-ask-2.was ∙ c.ask-2.ensures)))

pub returns-in_err-ask-3 : goal.returns-in_err-ask-3
unfolding ask_start
returns-in_err-ask-3 c =
    let w = (goal.at.returns-in_err-ask-3 c).In_ok-ask in
    let v = (goal.at.returns-in_err-ask-3 c).In_ok-ask-2 in
    handed _ _ c.from_residual-in_err-ask-3.ensures ∙ rw (grid-yes w, state-yes v, sym c.reference_there.ensures) (sym (then-is _ _ _ _ (sym c.in_err-ask-3.was ∙ c.ask-3.ensures)))

pub returns : goal.returns
unfolding ask_start
returns c =
    let p = goal.at.returns c in
    rw (grid-yes p.In_ok-ask, state-yes p.In_ok-ask-2, reference-yes p.In_ok-ask-3) (c.ask-4.ensures ∙ rw c.planes_right.ensures)
