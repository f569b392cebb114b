-- The quantiser's entry, and no DC.
use Rattle.std.proofs.Common.{◌∙◌, [], ◌∷◌, ◌*◌, pos, get_or, arith}
use Rattle.transform.specs.Residual.{placed, residual}
use Rattle.transform.specs.InnerResidual.{luma_residual}
use Rattle.transform.specs.InnerFour.{added_four}
use Rattle.transform.proofs.Tables.{entry}
use Rattle.transform.proofs.four.add_luma_quadrant.Goals as goal

pub add_four-requires-clause-levels : goal.add_four-requires-clause-levels
add_four-requires-clause-levels c =
    let e = entry c.args.q.number c.args.q.ranged in
    (c.requires.levels, omega (arith, c.dequant_coeff.ensures))

pub returns : goal.returns
unfolding added_four luma_residual
returns c =
    let a = c.args in
    let e = c.dequant_coeff.ensures in
    c.add_four.ensures
    ∙ (λ i. added_four a.plane.now a.s.stride a.s.x a.s.y (λ b. residual (e i) (get_or (pos 0 ∷ pos 0 ∷ pos 0 ∷ pos 0 ∷ []) b (pos 0)) (placed a.levels.now (16 * b))))
