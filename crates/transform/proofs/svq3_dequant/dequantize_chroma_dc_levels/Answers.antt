-- The entry at the chroma index scales each of the four levels.
use Rattle.std.proofs.Common.{get_or, pos, ◌*ℤ◌, rules, ◌∙◌}
use mir.Syntax.{w32}
use mir.Val.{SFits}
use mir.Facts.{to_z-of_z}
use Rattle.ints.specs.Z.{sat_z}
use Rattle.ints.proofs.Fits.{back}
use Rattle.transform.specs.ChromaDc.{secondary, scaled_at, chroma_dc}
use Rattle.transform.proofs.svq3_dequant.dequantize_chroma_dc_levels.Goals as goal

pub returns : goal.returns
unfolding chroma_dc scaled_at
returns c =
    let a = c.args in
    let s = c.chroma_coeff-scale.ensures in
    let l0 : SFits w32 (get_or a.levels.now 0 (pos 0)) = search rules in
    let l1 : SFits w32 (get_or a.levels.now 1 (pos 0)) = search rules in
    let l2 : SFits w32 (get_or a.levels.now 2 (pos 0)) = search rules in
    let l3 : SFits w32 (get_or a.levels.now 3 (pos 0)) = search rules in
    let e1 = back w32 c.scale_level-a.type_inv (c.scale_level-a.ensures ∙ (λ i. sat_z (to_z-of_z l0 i *ℤ pos (s i)))) in
    let e2 = back w32 c.scale_level-b.type_inv (c.scale_level-b.ensures ∙ (λ i. sat_z (to_z-of_z l1 i *ℤ pos (s i)))) in
    let e3 = back w32 c.scale_level-c.type_inv (c.scale_level-c.ensures ∙ (λ i. sat_z (to_z-of_z l2 i *ℤ pos (s i)))) in
    let e4 = back w32 c.scale_level-d.type_inv (c.scale_level-d.ensures ∙ (λ i. sat_z (to_z-of_z l3 i *ℤ pos (s i)))) in
    c.chroma_dc_secondary_transform.ensures ∙ (λ i. secondary (e1 i) (e2 i) (e3 i) (e4 i))
