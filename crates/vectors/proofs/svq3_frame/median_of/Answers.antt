-- `vectors::svq3_frame::median_of` answers `median_of`: a median for each component.
use mathlib.Core.Path.{◌∙◌}
use mir.Syntax.{w32}
use Rattle.ints.specs.Z.{median_z}
use Rattle.ints.proofs.Fits.{back}
use Rattle.vectors.specs.Predict.{vector, median_of}
use borrow.Author.Rules.{rules}
use Rattle.vectors.proofs.Moves.{field-read}
use Rattle.vectors.proofs.svq3_frame.median_of.Goals as goal

pub returns : goal.returns
unfolding median_of
returns c =
    let ax = field-read c.args.a.x.0 (search rules) in
    let bx = field-read c.args.b.x.0 (search rules) in
    let cx = field-read c.args.c.x.0 (search rules) in
    let ay = field-read c.args.a.y.0 (search rules) in
    let by' = field-read c.args.b.y.0 (search rules) in
    let cy = field-read c.args.c.y.0 (search rules) in
    let x = back w32 c.median3.type_inv (c.median3.ensures ∙ λ i. median_z (ax i) (bx i) (cx i)) in
    let y = back w32 c.median3-2.type_inv (c.median3-2.ensures ∙ λ i. median_z (ay i) (by' i) (cy i)) in
    λ i. vector (x i) (y i)
