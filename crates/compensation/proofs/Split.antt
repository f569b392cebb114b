-- A vector raised by a multiple of six, so that it is not below 0: its quotient and remainder are those of rounding down. And a block's place moved by the quotient.
-- Assumes nothing.
use mathlib.Core.Path.{◌≡◌, sym, ap, ◌∙◌}
use Prim.Native.Nat.{ℕ, ◌*◌, ◌/◌, ◌%◌, ◌≤◌, ◌<◌}
use native.Mathlib.Omega.{arith}
use lib.IntN.{ℤ, pos, nat_abs, ◌+ℤ◌, ◌-ℤ◌, +ℤ_comm}
use lib.Signed.{pos-nat_abs}
use mir.Syntax.{w32, w64}
use mir.Val.{SFits, to_z}
use mir.Facts.{to_z-of_z, to_z_pos}
use Rattle.ints.specs.Z.{floor_z, mod_z}
use Rattle.std.proofs.lemmas.Int.{ints}
use Rattle.ints.proofs.Laws.{floor-shift}
use Rattle.ints.proofs.Fits.{read, signed}
use Rattle.ints.proofs.Same.{reads}

-- z, which fits 64 bits, is the vector v raised by six times k; n is z as the machine casts it
module _ {v z : ℤ} (k : ℕ) (enough : 2147483648 ≤ 6 * k) (small : SFits w32 v) (fits : SFits w64 z) (is : z ≡ v +ℤ pos (6 * k)) where
  abbrev n : ℕ
  n = nat_abs (read w64 z)

  raised : pos n ≡ pos (6 * k) +ℤ v
  raised =
      let e : read w64 z ≡ pos (6 * k) +ℤ v = to_z-of_z fits ∙ is ∙ +ℤ_comm v (pos (6 * k)) in
      pos-nat_abs (read w64 z) (omega (arith, ints, e, small.sfits)) ∙ e

  pub raised-small : n < 9223372036854775808
  raised-small = omega (arith, ints, is ∙ +ℤ_comm v (pos (6 * k)) ∙ sym raised, fits.sfits)

  pub raised-whole : to_z w64 (n / 6) -ℤ pos k ≡ floor_z v 6
  unfolding floor_z
  raised-whole =
      let p : to_z w64 (n / 6) ≡ pos (n / 6) = to_z_pos w64 (omega (arith, raised-small)) in
      let e : pos (n / 6) ≡ pos k +ℤ floor_z v 6 = ap (λ x. floor_z x 6) raised ∙ (floor-shift 6 (pos k) v (omega arith)).0 in
      ap (λ x. x -ℤ pos k) p ∙ omega (arith, ints, e)

  pub raised-phase : n % 6 ≡ mod_z v 6
  unfolding mod_z
  raised-phase = ap (λ x. mod_z x 6) raised ∙ (floor-shift 6 (pos k) v (omega arith)).1

-- two numbers of 32 bits, added in 64
module _ (x z : ℤ) (p : SFits w32 x) (q : SFits w32 z) where
  abbrev pub summed : ℤ
  summed = read w64 (read w32 x) +ℤ read w64 z

  pub summed-fits : SFits w64 summed
  summed-fits = search signed depth 20

  pub summed-is : read w64 summed ≡ x +ℤ z
  summed-is = search reads depth 20
