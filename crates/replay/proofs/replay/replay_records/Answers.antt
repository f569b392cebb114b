-- `replay::replay::replay_records`. The loop's invariant: what the records that are left will leave is what all of them leave.
use mathlib.Core.Path.{refl, ap, ◌∙◌}
use native.Mathlib.Omega.{arith}
use Rattle.picture.specs.InnerLent.{contents, with_contents}
use Rattle.picture.specs.declared.Picture.{Picture}
use Rattle.macroblock.specs.InnerSource.{state_by}
use Rattle.replay.proofs.Records.{start, end, further, on}
use Rattle.replay.proofs.replay.replay_records.Goals as goal

pub loop-at-init : goal.loop-at-init
loop-at-init c =
    let a = c.args in
    (refl, c.requires.all_sized, start (state_by a.frame a.quantiser a.reference (contents a.pic.now)) c.requires.cols_bound.2)

pub replay_record-step-requires : goal.replay_record-step-requires
replay_record-step-requires c = record { cols_bound = (c.requires.cols_bound.0, c.requires.cols_bound.1); all_sized = c.loop-at.invariant.1 }

pub loop-at-smaller : goal.loop-at-smaller
loop-at-smaller c =
    let h = c.loop-at-test.true in
    omega (arith, h, further c.loop-at.invariant.2 c.requires.cols_bound.0 c.requires.cols_bound.1 h c.replay_record-step.ensures.stepped)

pub loop-at-preserved : goal.loop-at-preserved
loop-at-preserved c =
    let i = c.loop-at.invariant in
    let r = c.replay_record-step in
    (r.ensures.same_slices ∙ ap (λ (p : Picture). with_contents p (contents r.new.pic)) i.0, r.ensures.sized, on i.2 c.requires.cols_bound.0 c.requires.cols_bound.1 c.loop-at-test.true r.ensures.stepped (refl, refl))

pub returns : goal.returns
returns c = record { left = end c.loop-at.invariant.2 c.loop-at-test.false; same_slices = c.loop-at.invariant.0 }
