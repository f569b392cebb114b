-- `compensation::svq3_mc::motion_compensate_block` meets its contract: the two refusals, then the block.
use mathlib.Core.Path.{refl, sym, ◌∙◌}
use lib.ListN.{length}
use mir.Facts.{to_z-of_z}
use Rattle.ints.specs.Z.{when◌then◌else◌}
use Rattle.picture.specs.Painted.{painted}
use Rattle.compensation.specs.Sample.{block_sample}
use Rattle.compensation.specs.Block.{block_answer, block_out}
use Rattle.compensation.proofs.Sides.{plane-whole, spans, block_inside}
use Rattle.compensation.proofs.svq3_mc.motion_compensate_block.Goals as goal

pub returns-then-not-sides_fit : goal.returns-then-not-sides_fit
unfolding block_answer block_out when◌then◌else◌
returns-then-not-sides_fit c = rw (sym c.sides_fit.ensures ∙ c.if-not-sides_fit.true) (record { value = refl; out_after = refl })

pub returns-then-not-sides_fit-2 : goal.returns-then-not-sides_fit-2
unfolding block_answer block_out when◌then◌else◌
returns-then-not-sides_fit-2 c =
    rw (sym c.sides_fit.ensures ∙ c.if-not-sides_fit.false, sym c.sides_fit-2.ensures ∙ c.if-not-sides_fit-2.true) (record { value = refl; out_after = refl })

pub invariant_of-plane : goal.invariant_of-plane
invariant_of-plane c =
    let a = c.args in
    record { whole = plane-whole a.width a.height (length a.plane.now) (sym c.sides_fit.ensures ∙ c.if-not-sides_fit.false) }

pub compensate_into-requires : goal.compensate_into-requires
compensate_into-requires c =
    let a = c.args in
    let s = spans a.w a.h (length a.out.now) (sym c.sides_fit-2.ensures ∙ c.if-not-sides_fit-2.false) in
    (s.0, block_inside s.0 s.1)

pub returns : goal.returns
unfolding block_answer block_out when◌then◌else◌
returns c =
    let a = c.args in
    let f = c.ranges in
    rw (sym c.sides_fit.ensures ∙ c.if-not-sides_fit.false, sym c.sides_fit-2.ensures ∙ c.if-not-sides_fit-2.false)
    (record { value = refl; out_after = c.compensate_into.ensures ∙ (λ i. painted a.w 0 0 a.w a.h (block_sample a.plane.now a.width a.height (to_z-of_z f.x i) (to_z-of_z f.y i) (to_z-of_z f.vx i) (to_z-of_z f.vy i)) a.out.now) })
