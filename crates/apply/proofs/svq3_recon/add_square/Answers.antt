-- `apply::svq3_recon::add_square`: with the DC of the definition; without AC levels the blocks have none but it.
use mathlib.Core.Path.{◌≡◌, ◌∙◌}
use mathlib.Core.List.{List}
use Prim.Native.Nat.{ℕ, ◌+◌, ◌*◌}
use lib.IntN.{ℤ, pos}
use lib.ListN.{get_or}
use Rattle.transform.specs.Tables.{chroma_coeff}
use Rattle.transform.specs.InnerResidual.{chroma_residual}
use Rattle.transform.specs.ChromaDc.{chroma_dc}
use Rattle.transform.specs.InnerFour.{added_four}
use Rattle.transform.proofs.Slices.{chroma-slice, chroma_dc-rest}
use Rattle.apply.specs.InnerSquares.{square_added}
use Rattle.apply.proofs.Residuals.{all-levels, dc-square}
use Rattle.apply.proofs.svq3_recon.add_square.Goals.{After-dequantize_chroma_dc_levels-dc}
use Rattle.apply.proofs.svq3_recon.add_square.Goals as goal

-- the DC, from the levels where they lie
dc-levels : (c : After-dequantize_chroma_dc_levels-dc) → c.dequantize_chroma_dc_levels-dc.result ≡ chroma_dc (chroma_coeff c.args.q.number) c.args.levels.now (256 + 4 * c.args.plane)
dc-levels c = c.dequantize_chroma_dc_levels-dc.ensures ∙ all-levels (λ (l : List ℤ). chroma_dc (chroma_coeff c.args.q.number) l 0) (256 + 4 * c.args.plane) c.args.levels.now c.told-levels ∙ chroma_dc-rest _ _ _

pub returns-then-ac : goal.returns-then-ac
unfolding square_added
returns-then-ac c =
    let a = c.args in
    let s = a.s in
    let e = dc-levels (goal.at.returns-then-ac c).After-dequantize_chroma_dc_levels-dc in
    let l = λ (dc : ℤ) (b : ℕ). chroma-slice a.q.number dc (264 + 64 * a.plane) (16 * b) a.levels.now in
    c.add_chroma_blocks.ensures
    ∙ all-levels (λ (l : List ℤ). added_four a.pic.now s.stride s.x s.y (λ b. chroma_residual a.q.number (get_or c.dequantize_chroma_dc_levels-dc.result b (pos 0)) l (16 * b))) (264 + 64 * a.plane) a.levels.now c.told-levels
    ∙ (λ i. added_four a.pic.now s.stride s.x s.y (λ b. l (get_or c.dequantize_chroma_dc_levels-dc.result b (pos 0)) b i))
    ∙ (λ i. added_four a.pic.now s.stride s.x s.y (λ b. chroma_residual a.q.number (get_or (e i) b (pos 0)) a.levels.now (264 + 64 * a.plane + 16 * b)))

pub returns-else-ac : goal.returns-else-ac
returns-else-ac c =
    let a = c.args in
    c.add_chroma_dc_blocks.ensures (chroma_coeff a.q.number)
    ∙ dc-square a.plane a.s.stride a.s.x a.s.y a.q.number a.levels.now _ a.pic.now (c.requires.pos_value c.if-ac.false) (dc-levels (goal.at.returns-else-ac c).After-dequantize_chroma_dc_levels-dc)
