-- `printing::print::put_records`: the lines of the records that are left, written at their place, give the whole.
use mathlib.Core.Path.{◌≡◌, sym, ◌∙◌}
use Prim.Native.Nat.{◌≤◌, ◌<◌}
use native.Mathlib.Omega.{arith}
use lib.ListN.{length, drop}
use Rattle.record.specs.Parse.{parse_record}
use Rattle.std.specs.Prelude.{Ok}
use Rattle.refusal.specs.Answered.{reached}
use Rattle.printing.proofs.Lines.{begin, end, in-form, further, there, fits, on}
use Rattle.printing.proofs.print.put_records.Goals.{In-Ok}
use Rattle.printing.proofs.print.put_records.Goals as goal

-- the record at i, which ends at `next`
ends : (c : In-Ok) → Ok c.in-Ok.next ≡ reached c.loop-i.i (parse_record c.args.transcript.grid.cols c.args.transcript.grid.rows (drop c.loop-i.i c.args.transcript.bytes.now))
ends c = sym c.in-Ok.is ∙ c.check_record.ensures

put-start : (c : In-Ok) → c.loop-i.i < c.in-Ok.next
put-start c = further c.loop-i.invariant c.args.transcript.wide c.args.transcript.high c.loop-i-test.true (ends c)

put-end : (c : In-Ok) → c.in-Ok.next ≤ length c.args.transcript.bytes.now
put-end c = there c.loop-i.invariant c.args.transcript.wide c.args.transcript.high c.loop-i-test.true (ends c)

pub returns-in_default : goal.returns-in_default
returns-in_default c = in-form c.loop-i.invariant c.args.transcript.wide c.args.transcript.high c.loop-i-test.true (sym c.in_default.is ∙ c.check_record.ensures)

pub put_hex_line-p-requires : goal.put_hex_line-p-requires
put_hex_line-p-requires c = fits c.loop-i.invariant c.args.transcript.wide c.args.transcript.high c.loop-i-test.true (ends (goal.at.put_hex_line-p-requires c).In-Ok) c.requires.room

pub loop-i-preserved : goal.loop-i-preserved
loop-i-preserved c = on c.loop-i.invariant c.args.transcript.wide c.args.transcript.high c.loop-i-test.true (ends (goal.at.loop-i-preserved c).In-Ok) c.put_hex_line-p.ensures

pub loop-i-init : goal.loop-i-init
loop-i-init c = begin c.requires.recorded c.args.out.now c.args.at

pub slice_bounds-put_hex_line-end : goal.slice_bounds-put_hex_line-end
slice_bounds-put_hex_line-end c = omega (arith, put-end (goal.at.slice_bounds-put_hex_line-end c).In-Ok)

pub loop-i-smaller : goal.loop-i-smaller
loop-i-smaller c = omega (arith, put-start (goal.at.loop-i-smaller c).In-Ok, put-end (goal.at.loop-i-smaller c).In-Ok)

pub returns : goal.returns
returns c = end c.loop-i.invariant c.loop-i-test.false
