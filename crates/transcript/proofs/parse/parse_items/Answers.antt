-- `transcript::parse::parse_items`: what is still to be read, joined to what was read, is the whole.
use mathlib.Core.Path.{sym, ◌∙◌}
use native.Mathlib.Omega.{arith}
use Rattle.record.specs.Parse.{parse_item, parse_items}
use Rattle.refusal.proofs.Answered.{handed}
use Rattle.levels.proofs.Walks.{begins, goes_on, stops, passes, ends}
use Rattle.transcript.proofs.parse.parse_items.Goals as goal

pub loop-i-init : goal.loop-i-init
loop-i-init c = let a = c.args in begins parse_item a.pattern a.levels.now a.bytes.now a.at

pub parse_item-requires : goal.parse_item-requires
parse_item-requires c = c.loop-i-test.true

pub overflow_add-i : goal.overflow_add-i
overflow_add-i c = omega (arith, c.loop-i-test.true)

pub loop-i-smaller-then-item_coded : goal.loop-i-smaller-then-item_coded
loop-i-smaller-then-item_coded c = omega (arith, c.loop-i-test.true)

pub loop-i-preserved-then-item_coded : goal.loop-i-preserved-then-item_coded
unfolding parse_items
loop-i-preserved-then-item_coded c =
    let l = c.loop-i in
    let r = c.parse_item in
    goes_on parse_item _ l.invariant _ _ _ c.loop-i-test.true (sym c.item_coded.ensures ∙ c.if-item_coded.true) c.in_ok-p.was r.ensures

pub returns-in_err-p : goal.returns-in_err-p
unfolding parse_items
returns-in_err-p c = rw (handed _ _ c.from_residual.ensures) (stops parse_item _ c.loop-i.invariant _ _ _ c.loop-i-test.true (sym c.item_coded.ensures ∙ c.if-item_coded.true) c.in_err-p.was c.parse_item.ensures)

pub loop-i-smaller : goal.loop-i-smaller
loop-i-smaller c = omega (arith, c.group_end-i.ensures.on, c.loop-i-test.true)

pub loop-i-preserved : goal.loop-i-preserved
loop-i-preserved c = passes parse_item _ c.loop-i.invariant c.group_end-i.ensures (sym c.item_coded.ensures ∙ c.if-item_coded.false)

pub returns : goal.returns
unfolding parse_items
returns c = ends parse_item _ c.loop-i.invariant c.loop-i-test.false

pub group_end-i-requires : goal.group_end-i-requires
group_end-i-requires c = c.loop-i-test.true
