-- `compensation::svq3_mc::taps_of` meets its contract: phases and place are those of the definitions.
use mathlib.Core.Path.{◌≡◌, sym, ap, subst, ◌∙◌}
use lib.IntN.{ℤ, ◌+ℤ◌}
use mir.Syntax.{w32}
use mir.Val.{SFits}
use mir.Facts.{to_z-of_z}
use Rattle.ints.specs.Z.{floor_z, mod_z}
use Rattle.ints.proofs.Fits.{via}
use Rattle.ints.proofs.Laws.{floor-fits}
use Rattle.compensation.proofs.Split.{summed-fits, summed-is}
use Rattle.compensation.proofs.svq3_mc.taps_of.Goals.{After-split_mv_component-sy}
use Rattle.compensation.proofs.svq3_mc.taps_of.Goals as goal

-- the whole parts and the phases
wholes : (c : After-split_mv_component-sy) → let a = c.args in (c.split_mv_component-sx.result.whole ≡ floor_z a.vx 6) × (c.split_mv_component-sy.result.whole ≡ floor_z a.vy 6)
wholes c =
    let f = c.ranges in
    (via (λ z. floor_z z 6) c.split_mv_component-sx.ensures.0 (to_z-of_z f.vx), via (λ z. floor_z z 6) c.split_mv_component-sy.ensures.0 (to_z-of_z f.vy))

fit : (c : After-split_mv_component-sy) → SFits w32 c.split_mv_component-sx.result.whole × SFits w32 c.split_mv_component-sy.result.whole
fit c =
    let f = c.ranges in
    (subst (SFits w32) (sym (wholes c).0) (floor-fits 6 f.vx), subst (SFits w32) (sym (wholes c).1) (floor-fits 6 f.vy))

phases : (c : After-split_mv_component-sy) → let a = c.args in (c.split_mv_component-sx.result.phase ≡ mod_z a.vx 6) × (c.split_mv_component-sy.result.phase ≡ mod_z a.vy 6)
phases c =
    let f = c.ranges in
    (via (λ z. mod_z z 6) c.split_mv_component-sx.ensures.1 (to_z-of_z f.vx), via (λ z. mod_z z 6) c.split_mv_component-sy.ensures.1 (to_z-of_z f.vy))

pub returns-clause-placed : goal.returns-clause-placed
returns-clause-placed c =
    let a = c.args in
    let p = phases (goal.at.returns-clause-placed c).After-split_mv_component-sy in
    let across = summed-is a.x c.split_mv_component-sx.result.whole c.ranges.x (fit (goal.at.returns-clause-placed c).After-split_mv_component-sy).0 ∙ ap (λ (z : ℤ). a.x +ℤ z) (wholes (goal.at.returns-clause-placed c).After-split_mv_component-sy).0 in
    let down = summed-is a.y c.split_mv_component-sy.result.whole c.ranges.y (fit (goal.at.returns-clause-placed c).After-split_mv_component-sy).1 ∙ ap (λ (z : ℤ). a.y +ℤ z) (wholes (goal.at.returns-clause-placed c).After-split_mv_component-sy).1 in
    record { across_phase = p.0; down_phase = p.1; across = across; down = down }

pub overflow_add-ox : goal.overflow_add-ox
overflow_add-ox c = summed-fits _ _ c.ranges.x (fit (goal.at.overflow_add-ox c).After-split_mv_component-sy).0

pub overflow_add-oy : goal.overflow_add-oy
overflow_add-oy c = summed-fits _ _ c.ranges.y (fit (goal.at.overflow_add-oy c).After-split_mv_component-sy).1
