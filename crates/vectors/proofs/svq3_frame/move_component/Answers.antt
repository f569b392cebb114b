-- `vectors::svq3_frame::move_component` answers `stored_part` and `clipped_part`: the exact product of a small sum, and else what `move_held` answers.
use mathlib.Core.Path.{◌≡◌, sym, ap, ap₂, subst, ◌∙◌}
use mathlib.Core.Bool.{false, ◌||◌}
use lib.IntN.{ℤ, pos, negsuc, ◌+ℤ◌, ◌*ℤ◌}
use lib.Signed.{lt_z}
use mir.Syntax.{w32, w64}
use mir.Val.{SFits}
use borrow.Author.Rules.{rules}
use Rattle.ints.specs.Z.{sat_z, over_z}
use Rattle.ints.proofs.Fits.{read, back}
use Rattle.vectors.specs.Units.{summed, scaled, stored_scale, stored_part, clipped_part}
use Rattle.vectors.proofs.Tests.{neither}
use Rattle.vectors.proofs.Moves.{sum-wide, small-sum, small_product, small-stored}
use Rattle.vectors.proofs.svq3_frame.move_component.Goals.{After-stored_scale-scale}
use Rattle.vectors.proofs.svq3_frame.move_component.Goals as goal

-- a small sum, as the machine reads it
module _ (c : After-stored_scale-scale) where
  abbrev from : ℤ
  from = c.convert_predictor-from.result.0

  abbrev difference : ℤ
  difference = c.args.d.0

  abbrev wide : ℤ
  wide = read w64 (read w64 (read w32 from) +ℤ read w64 (read w32 difference))

  abbrev exact : ℤ
  exact = from +ℤ difference

  sum : wide ≡ exact
  sum = sum-wide from difference (search rules) (search rules)

  bounds : (lt_z exact (negsuc 268435455) ≡ false) × (lt_z (pos 268435455) exact ≡ false)
  bounds = let n = neither (lt_z wide (negsuc 268435455)) (lt_z (pos 268435455) wide) c.if-sum.false in (rw sum at n.0, rw sum at n.1)

  narrow-fits : SFits w32 wide
  narrow-fits = subst (SFits w32) (sym sum) (small-sum exact bounds.0 bounds.1)

  product : read w32 wide *ℤ read w32 c.stored_scale-scale.result ≡ exact *ℤ pos (stored_scale c.args.precision)
  product = ap₂ ◌*ℤ◌ (back w32 narrow-fits.sfits sum) (back w32 c.stored_scale-scale.type_inv c.stored_scale-scale.ensures)

  product-fits : SFits w32 (read w32 wide *ℤ read w32 c.stored_scale-scale.result)
  product-fits = subst (SFits w32) (sym product) (small_product exact bounds.0 bounds.1 c.args.precision)

pub overflow_mul-value : goal.overflow_mul-value
overflow_mul-value c = product-fits (goal.at.overflow_mul-value c).After-stored_scale-scale

pub returns-then-sum : goal.returns-then-sum
unfolding summed scaled stored_part clipped_part
returns-then-sum c =
    let d = c.args.d.0 in
    let k = pos (stored_scale c.args.precision) in
    let e = c.convert_predictor-from.ensures in
    record {
      value_value = c.move_held.ensures.value_value ∙ ap (λ z. sat_z (sat_z (z +ℤ d) *ℤ k)) e;
      clipped_value = c.move_held.ensures.clipped_value ∙ ap (λ z. over_z (z +ℤ d) || over_z (sat_z (z +ℤ d) *ℤ k)) e;
    }

pub returns : goal.returns
returns c =
    let a = c.args in
    let m = small-stored (exact c) (bounds c).0 (bounds c).1 a.precision a.p.0 a.d.0 (ap (λ z. z +ℤ a.d.0) c.convert_predictor-from.ensures) in
    record { value_value = back w32 (product-fits c).sfits (product c) ∙ m.0; clipped_value = m.1 }
