-- `transcript::check::check_records`: the records counted so far and those still to be read are all of them.
use mathlib.Core.Path.{◌≡◌, sym, ◌∙◌}
use Prim.Native.Nat.{ℕ, ◌+◌}
use native.Mathlib.Omega.{arith}
use lib.ListN.{drop}
use Rattle.refusal.specs.Got.{got}
use Rattle.refusal.proofs.Answered.{handed}
use Rattle.refusal.proofs.Lists.{counting, count-end, count-stop, count-on}
use Rattle.record.specs.Record.{Record}
use Rattle.record.specs.Parse.{parse_record}
use Rattle.transcript.proofs.Checks.{grid-takes, records-tally, record-read, not-record}
use Rattle.transcript.proofs.check.check_records.Goals.{In_ok-at}
use Rattle.transcript.proofs.check.check_records.Goals as goal

-- what was read, of the definition
found : (c : In_ok-at) → let a = c.args in
    (r : Record) × (n : ℕ) × (parse_record a.grid.cols a.grid.rows (drop c.loop-at.at a.bytes.now) ≡ got r n) × (c.in_ok-at.at ≡ c.loop-at.at + n)
found c = record-read c.loop-at.at _ _ (sym c.in_ok-at.was ∙ c.check_record.ensures)

pub loop-at-smaller : goal.loop-at-smaller
loop-at-smaller c =
    let t = (grid-takes c.args.grid.cols c.args.grid.rows c.requires).takes (drop c.loop-at.at c.args.bytes.now) _ (found c).1 (found c).2 in
    let h = c.loop-at-test.true in
    omega (arith, (found c).3)

pub loop-at-preserved : goal.loop-at-preserved
loop-at-preserved c =
    count-on c.loop-at.invariant (grid-takes c.args.grid.cols c.args.grid.rows c.requires) c.loop-at-test.true _ _ _ (found c).2 (found c).3

pub returns-in_err-at : goal.returns-in_err-at
returns-in_err-at c =
    handed _ _ c.from_residual.ensures ∙ sym (count-stop c.loop-at.invariant (grid-takes c.args.grid.cols c.args.grid.rows c.requires) c.loop-at-test.true _ (not-record c.loop-at.at _ _ (sym c.in_err-at.was ∙ c.check_record.ensures)))

pub returns : goal.returns
returns c = sym (count-end c.loop-at.invariant c.loop-at-test.false)

pub loop-at-init : goal.loop-at-init
loop-at-init c = counting (records-tally _ _ c.args.bytes.now)

pub check_record-requires : goal.check_record-requires
check_record-requires c = tt

pub overflow_add-count : goal.overflow_add-count
overflow_add-count c = omega (arith, c.loop-at.invariant.there, c.loop-at.invariant.few)
