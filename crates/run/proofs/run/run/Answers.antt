-- `run::run::run` meets its contract: the list's check, then the run.
use mathlib.Core.Path.{sym, ap, ◌∙◌}
use borrow.Author.Rules.{rules}
use Rattle.std.specs.Prelude.{Err}
use Rattle.picture.specs.InnerLent.{Slices}
use Rattle.picture.proofs.Lent.{slices-are, same-slices}
use lib.ListN.{length}
use Rattle.state.specs.Questions.{ask_run}
use Rattle.state.specs.declared.Lengths.{Lengths}
use Rattle.state.specs.State.{State}
use Rattle.macroblock.specs.Entry.{state_of, state_now}
use Rattle.run.specs.Left.{Left, report_of, run_left}
use Rattle.run.specs.declared.Report.{Report}
use Rattle.run.proofs.Whole.{listed, refused-list, no_call, some-calls}
use Rattle.run.proofs.run.run.Goals.{Start}
use Rattle.run.proofs.run.run.Goals as goal

-- the state at entry, and what is left where nothing is done
abbrev S : Start → State
S s = state_now s.args.frame s.args.quantiser s.args.ry s.args.rcb s.args.rcr s.args.y s.args.cb s.args.cr s.args.mv s.args.marks

abbrev nothing : Start → Report → Left
nothing s r = run_left r (state_now s.args.frame r.quantiser s.args.ry s.args.rcb s.args.rcr s.args.y s.args.cb s.args.cr s.args.mv s.args.marks) s.args.transcript.now

pub returns-then-n-eq0 : goal.returns-then-n-eq0
returns-then-n-eq0 c =
    ap (nothing (goal.at.returns-then-n-eq0 c).Start) (c.run_nothing.ensures ∙ ap (λ (l : Lengths). report_of 0 0 c.args.place c.args.quantiser 0 (ask_run c.args.frame.grid.cols c.args.frame.grid.rows l c.args.quantiser (length c.args.bits.now) c.args.place)) c.of-l.ensures)
    ∙ no_call (S (goal.at.returns-then-n-eq0 c).Start) c.args.list.now c.args.bits.now c.args.place c.args.transcript.now (sym c.in-Ok.is ∙ c.check_calls.ensures) c.if-n-eq0.true

pub run_calls-requires : goal.run_calls-requires
run_calls-requires c = listed c.args.list.now (sym c.in-Ok.is ∙ c.check_calls.ensures)

pub returns-else-n-eq0 : goal.returns-else-n-eq0
returns-else-n-eq0 c =
    let a = c.args in
    let d = c.run_calls in
    let same = same-slices d.ensures.same_slices in
    ap (λ (p : Slices). run_left d.result (state_of a.frame d.result.quantiser a.ry.now a.rcb.now a.rcr.now p.y p.cb p.cr p.mv p.marks) d.new.transcript)
    (slices-are (let e = same.y in search rules) (let e = same.cb in search rules) (let e = same.cr in search rules) (let e = same.mv in search rules) (let e = same.marks in search rules))
    ∙ d.ensures.left
    ∙ some-calls (S (goal.at.returns-else-n-eq0 c).Start) c.args.list.now c.args.bits.now c.args.place c.args.transcript.now (sym c.in-Ok.is ∙ c.check_calls.ensures) c.if-n-eq0.false

pub returns-in-Err : goal.returns-in-Err
returns-in-Err c =
    ap (λ (r : Report). nothing (goal.at.returns-in-Err c).Start (record { accepted = r.accepted; consumed = r.consumed; place = r.place; quantiser = r.quantiser; fill = r.fill; stop = Err c.in-Err.why })) c.new.ensures
    ∙ refused-list (S (goal.at.returns-in-Err c).Start) c.args.list.now c.args.bits.now c.args.place c.args.transcript.now (sym c.in-Err.is ∙ c.check_calls.ensures)

pub check_calls-requires : goal.check_calls-requires
check_calls-requires c = tt
