-- `state::ask_replay` meets its contract: 1 to 4, then 6.
use mathlib.Core.Path.{sym, ◌∙◌}
use Rattle.refusal.proofs.Answered.{handed}
use Rattle.state.proofs.Laws.{replay-is}
use Rattle.state.proofs.ask_replay.Goals as goal

pub returns-in_err-ask_start : goal.returns-in_err-ask_start
returns-in_err-ask_start c =
    let a = c.args in
    handed _ _ c.from_residual.ensures ∙ sym (replay-is a.grid.cols a.grid.rows a.l a.quantiser _ (sym c.in_err-ask_start.was ∙ c.ask_start.ensures))

pub returns : goal.returns
returns c =
    let a = c.args in
    c.ask_quantiser.ensures ∙ sym (replay-is a.grid.cols a.grid.rows a.l a.quantiser _ (sym c.in_ok-ask_start.was ∙ c.ask_start.ensures))
