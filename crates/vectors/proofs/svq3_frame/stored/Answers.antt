-- `vectors::svq3_frame::stored` answers the saturated product, and whether it had to saturate.
use mathlib.Core.Path.{ap, ap₂, ◌∙◌}
use lib.IntN.{◌*ℤ◌}
use mir.Syntax.{w32}
use borrow.Author.Rules.{rules}
use Rattle.ints.specs.Z.{sat_z, over_z}
use Rattle.ints.proofs.Fits.{back}
use Rattle.ints.proofs.Laws.{value_read, over-of}
use Rattle.vectors.proofs.Moves.{field-read}
use Rattle.vectors.proofs.svq3_frame.stored.Goals as goal

pub returns : goal.returns
returns c =
    let m = c.sat_mul-product in
    let s = c.stored_scale in
    let u = field-read c.args.u.0 (search rules) in
    let e = ap₂ ◌*ℤ◌ u (back w32 s.type_inv s.ensures) in
    record { value_value = value_read _ m.ensures ∙ ap sat_z e; clipped_value = over-of _ m.ensures ∙ ap over_z e }
