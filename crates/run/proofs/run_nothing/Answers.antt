-- `run::run_nothing`: the answer to the questions, as the run's end.
use mathlib.Core.Path.{ap, ◌∙◌}
use Rattle.run.specs.Run.{Stop}
use Rattle.run.specs.Left.{report_of}
use Rattle.run.specs.declared.Report.{Report}
use Rattle.run.proofs.run_nothing.Goals as goal

pub returns : goal.returns
returns c = ap (λ (r : Report). record { accepted = r.accepted; consumed = r.consumed; place = r.place; quantiser = r.quantiser; fill = r.fill; stop = c.ask_run-stop.result }) c.new.ensures ∙ ap (λ (s : Stop). report_of 0 0 c.args.place c.args.quantiser 0 s) c.ask_run-stop.ensures
