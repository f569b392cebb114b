-- `vectors::svq3_frame::move_held` answers the sum and then the product, each held in i32.
use mathlib.Core.Path.{ap, ap₂, ◌∙◌}
use mathlib.Core.Bool.{◌||◌}
use lib.IntN.{pos, ◌+ℤ◌, ◌*ℤ◌}
use borrow.Author.Rules.{rules}
use Rattle.ints.specs.Z.{sat_z, over_z}
use Rattle.ints.proofs.Laws.{value_read, over-of}
use Rattle.vectors.specs.Units.{stored_scale}
use Rattle.vectors.proofs.Moves.{field-read}
use Rattle.vectors.proofs.svq3_frame.move_held.Goals as goal

pub returns : goal.returns
returns c =
    let a = c.args in
    let from = field-read a.from.0 (search rules) in
    let d = field-read a.d.0 (search rules) in
    let sum = ap₂ ◌+ℤ◌ from d in
    let product = ap (λ z. z *ℤ pos (stored_scale a.precision)) (value_read _ c.sat_add-sum.ensures ∙ ap sat_z sum) in
    record {
      value_value = c.stored-moved.ensures.value_value ∙ ap sat_z product;
      clipped_value = ap₂ ◌||◌ (over-of _ c.sat_add-sum.ensures ∙ ap over_z sum) (c.stored-moved.ensures.clipped_value ∙ ap over_z product);
    }
