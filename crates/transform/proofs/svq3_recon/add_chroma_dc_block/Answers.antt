-- Without levels each residual is the DC, rounded.
use Rattle.std.proofs.Common.{◌≡◌, ◌∙◌, ap, sym, subst, ℕ, pos, replicate, arith, rules}
use mir.Syntax.{w16}
use mir.Facts.{to_z-of_z}
use Rattle.ints.proofs.Fits.{read, back}
use Rattle.transform.specs.Residual.{listed, rounded}
use Rattle.transform.specs.Added.{added}
use Rattle.transform.specs.InnerArrays.{short, shortened, Short}
use Rattle.transform.proofs.Laws.{short-listed, added-listed, dc-only}
use Rattle.transform.proofs.svq3_recon.add_chroma_dc_block.Goals.{After-finish-v}
use Rattle.transform.proofs.svq3_recon.add_chroma_dc_block.Goals as goal

sixteen : (c : After-finish-v) → replicate 16 (read w16 c.finish-v.result) ≡ listed (shortened (λ (r k : ℕ). rounded (pos 0) c.args.dc))
unfolding listed shortened
sixteen c = ap (replicate 16) (back w16 c.finish-v.type_inv (c.finish-v.ensures ∙ ap (λ d. short (rounded (pos 0) d)) (to_z-of_z c.ranges.dc)))

pub reconstruct_4x4-requires : goal.reconstruct_4x4-requires
reconstruct_4x4-requires c = (search rules, subst Short (sym (sixteen (goal.at.reconstruct_4x4-requires c).After-finish-v)) (short-listed _))

pub returns : goal.returns
returns c =
    let s = c.args.s in
    λ scale.
    c.reconstruct_4x4.ensures
    ∙ added-listed c.args.plane.now s.stride s.x s.y _ (sixteen (goal.at.returns c).After-finish-v) (λ n. omega (arith, c.slice_known-1.given n))
    ∙ ap (added c.args.plane.now s.stride s.x s.y) (sym (dc-only scale c.args.dc))
