-- `apply::svq3_recon::add_quadrant`: the quadrant lies in its macroblock, and so in the plane.
use mathlib.Core.Path.{◌≡◌, sym, ◌∙◌}
use mathlib.Core.Bool.{true, false}
use Prim.Native.Nat.{◌+◌, ◌*◌, ◌/◌, ◌%◌}
use native.Mathlib.Omega.{arith}
use Rattle.std.proofs.Common.{length-drop}
use lib.Dec.{lit<}
use Rattle.ints.specs.Z.{when◌then◌else◌}
use Rattle.picture.proofs.Laws.{plane-inside}
use Rattle.transform.specs.InnerFour.{added_four}
use Rattle.transform.specs.InnerResidual.{luma_residual}
use mathlib.Core.List.{List}
use lib.IntN.{ℤ}
use Rattle.transform.proofs.Slices.{luma-slice}
use Rattle.levels.specs.Pattern.{quadrant_coded}
use Rattle.apply.specs.InnerSquares.{quadrant_added}
use Rattle.apply.proofs.Residuals.{quadrant-inside, all-levels}
use Rattle.apply.proofs.svq3_recon.add_quadrant.Goals as goal

pub invariant_of-add_luma_quadrant : goal.invariant_of-add_luma_quadrant
invariant_of-add_luma_quadrant c = record { ranged = c.args.residual.quantiser }

pub add_luma_quadrant-requires : goal.add_luma_quadrant-requires
add_luma_quadrant-requires c =
    record { inside = quadrant-inside c.args.q c.requires.quadrant (plane-inside 16 (lit< tt) c.args.residual.within c.requires.pic_len); levels = omega (arith, length-drop (64 * c.args.q) c.args.residual.levels.now, c.requires.quadrant) }

pub returns-then-luma_quadrant_coded : goal.returns-then-luma_quadrant_coded
unfolding quadrant_added when◌then◌else◌
returns-then-luma_quadrant_coded c =
    let e : quadrant_coded c.args.residual.head.pattern c.args.q ≡ true = sym c.luma_quadrant_coded.ensures ∙ c.if-luma_quadrant_coded.true in
    let a = c.args in
    let h = a.residual.head in
    let square = added_four a.pic.now (16 * a.residual.grid.cols) (16 * h.column + 8 * (a.q % 2)) (16 * h.row + 8 * (a.q / 2)) in
    rw e
    (c.add_luma_quadrant.ensures
    ∙ all-levels (λ (l : List ℤ). square (λ b. luma_residual h.quantiser l (16 * b))) (64 * a.q) a.residual.levels.now c.args.residual.count
    ∙ (λ i. square (λ b. luma-slice h.quantiser (64 * a.q) (16 * b) a.residual.levels.now i)))

pub returns-else-luma_quadrant_coded : goal.returns-else-luma_quadrant_coded
unfolding quadrant_added when◌then◌else◌
returns-else-luma_quadrant_coded c =
    let e : quadrant_coded c.args.residual.head.pattern c.args.q ≡ false = sym c.luma_quadrant_coded.ensures ∙ c.if-luma_quadrant_coded.false in
    rw e
