-- The product is small, and so fits.
use Rattle.std.proofs.Common.{◌≡◌, ◌<◌, ◌∙◌, sym, subst, pos, ◌*ℤ◌, get_or, arith, rules}
use mir.Syntax.{w32}
use mir.Val.{SFits, to_z}
use mir.Facts.{to_z-of_z}
use Rattle.ints.proofs.Fits.{read, cast-pos, fits, within-abs}
use Rattle.transform.specs.InnerPasses.{exact_at}
use Rattle.transform.proofs.exact.scale_small.Goals.{Start}
use Rattle.transform.proofs.exact.scale_small.Goals as goal

product : (c : Start) → SFits w32 (get_or c.args.levels.now c.args.n (pos 0)) → read w32 (get_or c.args.levels.now c.args.n (pos 0)) *ℤ to_z w32 c.args.scale.by ≡ exact_at c.args.scale.by c.args.levels.now c.args.n
unfolding exact_at
product c f =
    let s = c.args.scale in
    let h : s.by < 141534 = omega (arith, s.small) in
    let l = to_z-of_z f in
    let m = cast-pos w32 141534 s.by h tt in
    λ i. l i *ℤ m i

pub overflow_mul-result : goal.overflow_mul-result
overflow_mul-result c =
    let f : SFits w32 (get_or c.args.levels.now c.args.n (pos 0)) = search rules in
    subst (SFits w32) (sym (product (goal.at.overflow_mul-result c).Start f)) (fits (within-abs 800000 _ _ c.requires.1 tt))

pub returns : goal.returns
returns c =
    let f : SFits w32 (get_or c.args.levels.now c.args.n (pos 0)) = search rules in
    to_z-of_z (overflow_mul-result c) ∙ product (goal.at.returns c).Start f
