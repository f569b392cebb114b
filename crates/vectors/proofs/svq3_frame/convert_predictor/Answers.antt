-- `vectors::svq3_frame::convert_predictor` answers `convert_predictor`: at every precision a rounded sixth.
use mathlib.Core.Path.{◌≡◌, ap, ap₂, ◌∙◌}
use lib.IntN.{pos, ◌+ℤ◌, ◌*ℤ◌}
use mir.Syntax.{w32}
use mir.Val.{SFits}
use borrow.Author.Rules.{rules}
use Rattle.ints.specs.Z.{floor_z}
use Rattle.ints.proofs.Fits.{read, signed, back}
use Rattle.vectors.specs.InnerSamples.{units_in_sample}
use Rattle.vectors.proofs.Moves.{field-read, units-size, converted}
use Rattle.vectors.proofs.svq3_frame.convert_predictor.Goals.{After-units_in_sample-n}
use Rattle.vectors.proofs.svq3_frame.convert_predictor.Goals as goal

-- the product, as the machine reads its factors
product : (c : After-units_in_sample-n) → let a = c.args in read w32 c.units_in_sample-n.result *ℤ read w32 a.p.0 ≡ pos (units_in_sample a.precision) *ℤ a.p.0
product c =
    let u = c.units_in_sample-n in
    ap₂ ◌*ℤ◌ (back w32 u.type_inv u.ensures) (field-read c.args.p.0 (search rules))

-- and read back itself
argument : (c : After-units_in_sample-n) → let a = c.args in read w32 (read w32 c.units_in_sample-n.result *ℤ read w32 a.p.0) ≡ pos (units_in_sample a.precision) *ℤ a.p.0
argument c =
    let h = units-size c.args.precision c.args.p.0 c.requires in
    let f : SFits w32 (pos (units_in_sample c.args.precision) *ℤ c.args.p.0) = search signed depth 20 in
    ap (read w32) (product c) ∙ field-read _ f.sfits

pub returns : goal.returns
returns c =
    let a = c.args in
    back w32 c.floor_of_sixth.type_inv (c.floor_of_sixth.ensures ∙ ap (λ z. floor_z (z +ℤ pos 3) 6) (argument (goal.at.returns c).After-units_in_sample-n) ∙ converted a.precision a.p.0)
