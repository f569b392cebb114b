-- The entry at the chroma index.
use Rattle.std.proofs.Common.{◌∙◌, ◌*◌, pos, get_or, arith}
use Rattle.transform.specs.Residual.{placed, residual}
use Rattle.transform.specs.InnerResidual.{chroma_residual}
use Rattle.transform.specs.InnerFour.{added_four}
use Rattle.transform.proofs.Tables.{chroma-entry}
use Rattle.transform.proofs.four.add_chroma_blocks.Goals as goal

pub add_four-requires-clause-levels : goal.add_four-requires-clause-levels
add_four-requires-clause-levels c =
    let e = chroma-entry c.args.q.number c.args.q.ranged in
    (c.requires.levels, omega (arith, c.chroma_coeff.ensures))

pub returns : goal.returns
unfolding chroma_residual
returns c =
    let a = c.args in
    let e = c.chroma_coeff.ensures in
    c.add_four.ensures
    ∙ (λ i. added_four a.plane.now a.s.stride a.s.x a.s.y (λ b. residual (e i) (get_or a.dc.now b (pos 0)) (placed a.levels.now (16 * b))))
