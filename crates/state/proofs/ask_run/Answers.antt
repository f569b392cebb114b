-- `state::ask_run` meets its contract: 1 to 4 and 6, then 7.
use mathlib.Core.Path.{sym, ◌∙◌}
use Rattle.refusal.proofs.Answered.{handed}
use Rattle.state.proofs.Laws.{run_is}
use Rattle.state.proofs.ask_run.Goals as goal

pub returns-in_err-ask_replay : goal.returns-in_err-ask_replay
returns-in_err-ask_replay c =
    let a = c.args in
    handed _ _ c.from_residual.ensures ∙ sym (run_is a.grid.cols a.grid.rows a.l a.quantiser a.size a.place _ (sym c.in_err-ask_replay.was ∙ c.ask_replay.ensures))

pub returns : goal.returns
returns c =
    let a = c.args in
    c.ask_place.ensures ∙ sym (run_is a.grid.cols a.grid.rows a.l a.quantiser a.size a.place _ (sym c.in_ok-ask_replay.was ∙ c.ask_replay.ensures))
