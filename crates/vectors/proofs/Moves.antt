-- Laws of moving a component: a predictor in units is a rounded sixth, a small sum is not held, a stored component is an i32, and where nothing was clipped the difference is determined.
-- Assumes nothing.
use mathlib.Core.Path.{◌≡◌, refl, sym, ap, ap₂, ◌∙◌}
use mathlib.Core.Bool.{false, ◌||◌}
use Prim.Native.Nat.{ℕ, ◌+◌, ◌*◌, ◌/◌, ◌^◌, ◌≤◌, ◌<◌}
use native.Mathlib.Nat.{mul-div_right}
use native.Mathlib.Omega.{arith}
use lib.IntN.{ℤ, pos, negsuc, nat_abs, ◌+ℤ◌, ◌-ℤ◌, ◌*ℤ◌}
use lib.Signed.{mag, lt_z}
use mir.Syntax.{w32, w64}
use mir.Val.{SFits, to_z}
use mir.Facts.{to_z-of_z, to_z_pos}
use Rattle.ints.proofs.Fits.{read, if-ind}
use Rattle.ints.specs.Z.{sat_z, over_z, toward_zero, floor_z}
use Rattle.std.proofs.lemmas.Int.{ints}
use Rattle.ints.proofs.Linear.{up, down, add-z, diff-z, abs-z, mag-z, times-z, scaled-z, floor-z, quot-z}
use Rattle.ints.proofs.Laws.{sat-fits, sat-same, no-over, over-sat, add-diff}
use Rattle.ints.proofs.Same.{reads}
use Rattle.vectors.proofs.Tests.{neither}
use Rattle.vectors.specs.Units.{round_to_sixths, convert_predictor, stored_scale, summed, scaled, stored_part, clipped_part}
use Rattle.vectors.specs.InnerSamples.{units_in_sample}
use Rattle.vectors.specs.Difference.{difference_of}
use Rattle.vectors.specs.declared.svq3_mb.Svq3MvPrecision.{Svq3MvPrecision}
use Rattle.vectors.specs.declared.svq3_mb.Svq3MvPrecision.TheVariants.{Fullpel, Halfpel, Thirdpel}

-- ---- a field as the machine reads it, by what its struct tells
pub field-read : (z : ℤ) → mag z < 2 ^ 31 → read w32 z ≡ z
field-read z h = to_z-of_z {w = w32} (record { sfits = h })

-- ---- a sixth, rounded down, by a division of naturals: k more is no negative number
module _ (k : ℕ) (low : 1179648 ≤ k) (high : k < 2 ^ 21) (v : ℤ) (h : nat_abs v ≤ 1179648) where
  abbrev raised : ℤ
  raised = v +ℤ pos k

  raised-fits : SFits w32 raised
  raised-fits = record { sfits = omega (arith, abs-z v, add-z v (pos k), mag-z v, mag-z raised) }

  raised-read : read w32 raised ≡ pos (up raised)
  raised-read = to_z-of_z raised-fits ∙ omega (arith, ints, abs-z v, add-z v (pos k), mag-z v, mag-z raised)

  raised-number : nat_abs (read w32 raised) ≡ up raised
  raised-number = ap nat_abs raised-read

  raised-small : up raised < 2 ^ 22
  raised-small = omega (arith, abs-z v, add-z v (pos k), mag-z raised)

  number_small : nat_abs (read w32 raised) < 2 ^ 22
  number_small = rw raised-number raised-small

  less-fits : SFits w32 (to_z w32 (nat_abs (read w32 raised) / 6) -ℤ pos 262144)
  less-fits = rw (to_z_pos w32 {n = nat_abs (read w32 raised) / 6} (omega (arith, number_small))) (record { sfits = omega (arith, ints, number_small, diff-z (pos (nat_abs (read w32 raised) / 6)) (pos 262144), mag-z (pos (nat_abs (read w32 raised) / 6) -ℤ pos 262144)) })

  -- a sixth of k is 262144, and 3 remain
  pub sixth-read : k ≡ 6 * 262144 + 3 → read w32 (to_z w32 (nat_abs (read w32 raised) / 6) -ℤ pos 262144) ≡ floor_z (v +ℤ pos 3) 6
  sixth-read e =
      to_z-of_z less-fits
      ∙ rw raised-number
      (ap (λ z. z -ℤ pos 262144) (to_z_pos w32 {n = up raised / 6} (omega (arith, raised-small)))
      ∙ omega (arith, ints, abs-z v, add-z v (pos k), mag-z raised, diff-z (pos (up raised / 6)) (pos 262144), floor-z 6 (v +ℤ pos 3) (omega arith), add-z v (pos 3)))

-- ---- a predictor in units, at each precision: units of a sample times it, a sixth of that rounded
rounded : (v : ℤ) → floor_z (v +ℤ pos 3) 6 ≡ round_to_sixths v
unfolding round_to_sixths
rounded v =
    if-ind (λ z. floor_z (v +ℤ pos 3) 6 ≡ z) (lt_z v (pos 0)) (toward_zero (v -ℤ pos 2) 6) (toward_zero (v +ℤ pos 3) 6)
    (λ e. omega (arith, ints, mag-z v, floor-z 6 (v +ℤ pos 3) (omega arith), add-z v (pos 3), diff-z v (pos 2), mag-z (v -ℤ pos 2), quot-z 6 (v -ℤ pos 2)))
    (λ e. omega (arith, ints, mag-z v, floor-z 6 (v +ℤ pos 3) (omega arith), add-z v (pos 3), mag-z (v +ℤ pos 3), quot-z 6 (v +ℤ pos 3)))

pub converted : (precision : Svq3MvPrecision) (p : ℤ) → floor_z (pos (units_in_sample precision) *ℤ p +ℤ pos 3) 6 ≡ convert_predictor precision p
unfolding convert_predictor
converted Fullpel p = rounded (pos 1 *ℤ p) ∙ ap round_to_sixths (omega (arith, ints, times-z 1 p))
converted Halfpel p = rounded (pos 2 *ℤ p)
converted Thirdpel p = omega (arith, ints, floor-z 6 (pos 3 *ℤ p +ℤ pos 3) (omega arith), add-z (pos 3 *ℤ p) (pos 3), times-z 3 p, floor-z 2 (p +ℤ pos 1) (omega arith), add-z p (pos 1))

-- what is divided is small
pub units-size : (precision : Svq3MvPrecision) (p : ℤ) → nat_abs p ≤ 393216 → nat_abs (pos (units_in_sample precision) *ℤ p) ≤ 1179648
units-size Fullpel p h = omega (arith, abs-z p, abs-z (pos 1 *ℤ p), times-z 1 p)
units-size Halfpel p h = omega (arith, abs-z p, abs-z (pos 2 *ℤ p), times-z 2 p)
units-size Thirdpel p h = omega (arith, abs-z p, abs-z (pos 3 *ℤ p), times-z 3 p)

-- ---- a small sum: nothing has to be held
pub sum-wide : (a b : ℤ) → mag a < 2 ^ 31 → mag b < 2 ^ 31 → read w64 (read w64 (read w32 a) +ℤ read w64 (read w32 b)) ≡ a +ℤ b
sum-wide a b f g = search reads depth 20

module _ (z : ℤ) (lo : lt_z z (negsuc 268435455) ≡ false) (hi : lt_z (pos 268435455) z ≡ false) where
  pub small-sum : SFits w32 z
  small-sum = record { sfits = omega (arith, ints, mag-z z) }

  pub small_product : (precision : Svq3MvPrecision) → SFits w32 (z *ℤ pos (stored_scale precision))
  small_product Fullpel = record { sfits = omega (arith, ints, mag-z z, scaled-z 6 z, mag-z (z *ℤ pos 6)) }
  small_product Halfpel = record { sfits = omega (arith, ints, mag-z z, scaled-z 3 z, mag-z (z *ℤ pos 3)) }
  small_product Thirdpel = record { sfits = omega (arith, ints, mag-z z, scaled-z 2 z, mag-z (z *ℤ pos 2)) }

  -- the component is the exact product, and it is not clipped
  pub small-stored : (precision : Svq3MvPrecision) (p d : ℤ) → z ≡ convert_predictor precision p +ℤ d → (z *ℤ pos (stored_scale precision) ≡ stored_part precision p d) × (false ≡ clipped_part precision p d)
  unfolding summed scaled stored_part clipped_part
  small-stored precision p d e =
      let s : sat_z z ≡ z = sat-same small-sum in
      let m : sat_z z *ℤ pos (stored_scale precision) ≡ z *ℤ pos (stored_scale precision) = ap (λ y. y *ℤ pos (stored_scale precision)) s in
      rw (sym e) (
        sym (ap sat_z m ∙ sat-same (small_product precision)),
        sym (ap₂ ◌||◌ (no-over small-sum) (ap over_z m ∙ no-over (small_product precision))),
      )

-- ---- a stored component is an i32
pub stored-fits : (precision : Svq3MvPrecision) (p d : ℤ) → mag (stored_part precision p d) < 2 ^ 31
unfolding stored_part
stored-fits precision p d = (sat-fits (scaled precision p d)).sfits

-- ---- a multiple divided
some-scale : (precision : Svq3MvPrecision) → 0 < stored_scale precision
some-scale Fullpel = omega arith
some-scale Halfpel = omega arith
some-scale Thirdpel = omega arith

multiple-back : (k : ℕ) (z : ℤ) → 0 < k → toward_zero (z *ℤ pos k) k ≡ z
multiple-back k z h =
    let u : up (toward_zero (z *ℤ pos k) k) ≡ up z = (quot-z k (z *ℤ pos k)).0 ∙ ap (λ n. n / k) (scaled-z k z).0 ∙ mul-div_right (up z) h in
    let v : down (toward_zero (z *ℤ pos k) k) ≡ down z = (quot-z k (z *ℤ pos k)).1 ∙ ap (λ n. n / k) (scaled-z k z).1 ∙ mul-div_right (down z) h in
    omega (arith, ints)

-- ---- where nothing was clipped
module _ (precision : Svq3MvPrecision) (p d : ℤ) (e : clipped_part precision p d ≡ false) where
  -- the component is the exact product of the exact sum
  stored_exact : stored_part precision p d ≡ (convert_predictor precision p +ℤ d) *ℤ pos (stored_scale precision)
  unfolding summed scaled stored_part clipped_part
  stored_exact =
      let n = neither (over_z (summed precision p d)) (over_z (scaled precision p d)) e in
      (over-sat (scaled precision p d)).0 n.1 ∙ ap (λ z. z *ℤ pos (stored_scale precision)) ((over-sat (summed precision p d)).0 n.0)

  -- THE DIFFERENCE is determined by the predictor and the stored component
  pub difference-back : difference_of precision p (stored_part precision p d) ≡ d
  unfolding difference_of
  difference-back =
      let c = convert_predictor precision p in
      ap (λ z. z -ℤ c) (ap (λ z. toward_zero z (stored_scale precision)) stored_exact ∙ multiple-back (stored_scale precision) (c +ℤ d) (some-scale precision))
      ∙ sym (add-diff c d (c +ℤ d) refl)
