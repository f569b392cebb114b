-- `run::calls::check_calls`: the calls counted so far and those still to be read are all of them.
use mathlib.Core.Path.{sym, ◌∙◌}
use native.Mathlib.Omega.{arith}
use lib.ListN.{drop}
use Rattle.refusal.proofs.Answered.{answered-got, answered-refused, handed}
use Rattle.refusal.proofs.Lists.{counting, count-end, count-stop, count-on}
use Rattle.run.specs.Calls.{call_in}
use Rattle.run.proofs.Listing.{call-takes, calls-tally}
use Rattle.run.proofs.calls.check_calls.Goals as goal

pub loop-at-smaller : goal.loop-at-smaller
loop-at-smaller c =
    let l = c.args.list.now in
    let a = answered-got _ (call_in (drop c.loop-at.at l)) _ _ (sym c.in_ok-next.was ∙ c.read_call.ensures) in
    let t = call-takes.takes _ _ _ a.is in
    let h = c.loop-at-test.true in
    omega (arith, a.moved)

pub loop-at-preserved : goal.loop-at-preserved
loop-at-preserved c =
    let l = c.args.list.now in
    let a = answered-got _ (call_in (drop c.loop-at.at l)) _ _ (sym c.in_ok-next.was ∙ c.read_call.ensures) in
    count-on c.loop-at.invariant call-takes c.loop-at-test.true _ _ _ a.is a.moved

pub returns-in_err-next : goal.returns-in_err-next
returns-in_err-next c =
    let l = c.args.list.now in
    handed _ _ c.from_residual.ensures ∙ sym (count-stop c.loop-at.invariant call-takes c.loop-at-test.true _ (answered-refused _ (call_in (drop c.loop-at.at l)) _ (sym c.in_err-next.was ∙ c.read_call.ensures)))

pub loop-at-init : goal.loop-at-init
loop-at-init c = counting (calls-tally c.args.list.now)

pub read_call-requires : goal.read_call-requires
read_call-requires c = tt

pub overflow_add-count : goal.overflow_add-count
overflow_add-count c = omega (arith, c.loop-at.invariant.there, c.loop-at.invariant.few)

pub returns : goal.returns
returns c = sym (count-end c.loop-at.invariant c.loop-at-test.false)
