-- `run::run::run_calls` meets its contract. The loop's invariant: what the calls that are left will leave is what the list leaves.
use mathlib.Core.Path.{refl, sym, ap, ◌∙◌}
use native.Mathlib.Omega.{arith}
use Rattle.picture.specs.InnerLent.{Slices, contents, with_contents}
use Rattle.picture.specs.declared.Picture.{Picture}
use Rattle.macroblock.specs.InnerSource.{state_of_source}
use Rattle.run.specs.Left.{report_of, run_left}
use Rattle.run.specs.Run.{Stop}
use Rattle.run.proofs.Turns.{start, end, in-form, stopped, on, further, forward}
use Rattle.run.proofs.run.run_calls.Goals as goal

pub loop-at-init : goal.loop-at-init
loop-at-init c = rw c.new-report.ensures (refl, refl, refl, start c.requires)

pub returns-in_default : goal.returns-in_default
returns-in_default c = in-form c.loop-at.invariant.3 c.loop-at-test.true (sym c.in_default.is ∙ c.read_call.ensures)

pub overflow_sub-report : goal.overflow_sub-report
overflow_sub-report c =
    let l = c.loop-at in
    let d = c.decode_inter_mb in
    let s : Slices = record { y = d.new.y; cb = d.new.cb; cr = d.new.cr; mv = d.new.mv; marks = d.new.marks } in
    omega (
      arith,
      forward l.invariant.3 c.loop-at-test.true (sym c.in-Ok.is ∙ c.read_call.ensures) l.report.quantiser refl
          (λ q. state_of_source c.args.source q s)
          d.result d.new.transcript d.ensures c.in-Ok-decode_inter_mb.is,
    )

pub loop-at-smaller : goal.loop-at-smaller
loop-at-smaller c =
    let l = c.loop-at in
    let d = c.decode_inter_mb in
    let s : Slices = record { y = d.new.y; cb = d.new.cb; cr = d.new.cr; mv = d.new.mv; marks = d.new.marks } in
    omega (
      arith,
      c.loop-at-test.true,
      further l.invariant.3 c.loop-at-test.true (sym c.in-Ok.is ∙ c.read_call.ensures) l.report.quantiser refl
          (λ q. state_of_source c.args.source q s)
          d.result d.new.transcript d.ensures,
    )

pub loop-at-preserved : goal.loop-at-preserved
loop-at-preserved c =
    let l = c.loop-at in
    let d = c.decode_inter_mb in
    let s : Slices = record { y = d.new.y; cb = d.new.cb; cr = d.new.cr; mv = d.new.mv; marks = d.new.marks } in (
      ap (λ (p : Picture). with_contents p s) l.invariant.0,
      d.auto.transcript ∙ l.invariant.1,
      l.invariant.2,
      on l.invariant.3 c.loop-at-test.true (sym c.in-Ok.is ∙ c.read_call.ensures) l.report.quantiser refl
          (λ q. state_of_source c.args.source q s)
          d.result d.new.transcript d.ensures c.in-Ok-decode_inter_mb.is,
    )

pub returns-in-Err : goal.returns-in-Err
returns-in-Err c =
    let l = c.loop-at in
    let d = c.decode_inter_mb in
    let s : Slices = record { y = d.new.y; cb = d.new.cb; cr = d.new.cr; mv = d.new.mv; marks = d.new.marks } in
    record {
      left = stopped l.invariant.3 c.loop-at-test.true (sym c.in-Ok.is ∙ c.read_call.ensures) l.report.quantiser refl
          (λ q. state_of_source c.args.source q s)
          d.result d.new.transcript d.ensures c.in-Err.is;
      same_slices = ap (λ (p : Picture). with_contents p s) l.invariant.0;
    }

pub returns : goal.returns
returns c =
    let l = c.loop-at in
    let r = l.report in
    record {
      left = ap (λ (s : Stop). run_left (report_of r.accepted r.consumed r.place r.quantiser r.fill s) (state_of_source c.args.source r.quantiser (contents l.pic)) l.transcript) l.invariant.2
          ∙ end l.invariant.3 c.loop-at-test.false;
      same_slices = l.invariant.0;
    }
