-- `printing::header::read_list`: where the calls that are left end is where all of them do.
use mathlib.Core.Path.{sym, ◌∙◌}
use native.Mathlib.Omega.{arith}
use Rattle.refusal.proofs.Answered.{handed}
use Rattle.printing.proofs.Headers.{list-none, list-stop, list_on}
use Rattle.printing.proofs.header.read_list.Goals as goal

pub loop-i-preserved : goal.loop-i-preserved
loop-i-preserved c =
    let a = c.args in
    let l = c.loop-i in
    (l.invariant.0 ∙ list_on a.input.now l.p a.count l._i c.loop-i-test.true (sym c.in_ok-next.was ∙ c.read_call.ensures), omega arith)

pub returns-in_err-next : goal.returns-in_err-next
returns-in_err-next c =
    let a = c.args in
    let l = c.loop-i in
    handed _ _ c.from_residual.ensures ∙ sym (l.invariant.0 ∙ list-stop a.input.now l.p a.count l._i c.loop-i-test.true (sym c.in_err-next.was ∙ c.read_call.ensures))

pub returns : goal.returns
returns c =
    let a = c.args in
    let l = c.loop-i in
    sym (l.invariant.0 ∙ list-none a.input.now l.p a.count l._i c.loop-i-test.false)
