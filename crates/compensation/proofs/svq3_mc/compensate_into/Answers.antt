-- `compensation::svq3_mc::compensate_into` meets its contract: the taps are those of the endless plane.
use mathlib.Core.Path.{◌∙◌}
use mir.Facts.{to_z-of_z}
use Rattle.picture.specs.Painted.{painted}
use Rattle.compensation.specs.Sample.{block_sample}
use Rattle.compensation.proofs.Taps.{placed-block}
use Rattle.compensation.proofs.svq3_mc.compensate_into.Goals as goal

pub returns : goal.returns
returns c =
    let a = c.args in
    c.compensate_taps.ensures ∙ placed-block a.plane.samples.now a.plane.size.width a.plane.size.height c.taps_of-t.ensures.placed a.b.stride a.b.x a.b.y a.b.w a.b.h a.dst.now c.requires.0
    ∙ (λ i. painted a.b.stride a.b.x a.b.y a.b.w a.b.h (block_sample a.plane.samples.now a.plane.size.width a.plane.size.height (to_z-of_z c.ranges.x i) (to_z-of_z c.ranges.y i) (to_z-of_z c.ranges.vx i) (to_z-of_z c.ranges.vy i)) a.dst.now)
