-- The library's words for an order, for saturation and for a sum that is checked, by the definitions of specs/Z.antt.
-- Assumes nothing.
use mathlib.Core.Path.{◌≡◌, refl, sym, ap, ◌∙◌}
use mathlib.Core.Bool.{Bool, true, false, not}
use native.Mathlib.Omega.{arith}
use lib.IntN.{ℤ}
use lib.Signed.{◌≤ℤ◌}
use mir.Syntax.{w32}
use mir.Val.{SFits}
use mir.Facts.{to_z-of_z}
use Rattle.std.proofs.Common.{Option, Some, None}
use Rattle.std.specs.Int.{int_min, int_max, saturate_signed}
use Rattle.std.specs.Option.{SomeIff, is_some}
use Rattle.std.proofs.lemmas.Int.{ints, clamps}
use Rattle.ints.specs.Z.{min_z, max_z, clamp_z, sat_z, over_z}
use Rattle.ints.specs.InnerHeld.{held_z}
use Rattle.ints.specs.declared.Held.{Held}
use Rattle.ints.proofs.Fits.{read, clamp-ind}
use Rattle.ints.proofs.Linear.{min-z, max-z, sat-z}
use Rattle.ints.proofs.Laws.{sat-fits, no-over, over_no}

pub min-word : (a b : ℤ) → int_min a b ≡ min_z a b
min-word a b = omega (arith, ints, clamps, min-z a b)

pub max-word : (a b : ℤ) → int_max a b ≡ max_z a b
max-word a b = omega (arith, ints, clamps, max-z a b)

-- what `v.clamp(lo, hi)` answers
pub clamp-word : (lo hi z : ℤ) → lo ≤ℤ hi → int_max lo (int_min z hi) ≡ clamp_z lo hi z
clamp-word lo hi z h =
    clamp-ind (λ c. int_max lo (int_min z hi) ≡ c) lo hi z (λ e. omega (arith, ints, clamps)) (λ e f. omega (arith, ints, clamps)) (λ e f. omega (arith, ints, clamps))

-- `saturating_add`, `saturating_mul`
pub sat-word : (z : ℤ) → saturate_signed w32 z ≡ sat_z z
sat-word z = grind (arith, ints, sat-z z)

-- `checked_add`, `checked_mul`: None where the exact number leaves i32
pub over-word : (z x : ℤ) (r : Option ℤ) (b : Bool) → SomeIff r (SFits w32 z) x → is_some r ≡ not b → b ≡ over_z z
over-word z x None true h e = go (over_z z) refl
  where
    go : (t : Bool) → over_z z ≡ t → true ≡ over_z z
    go true f = sym f
    go false f = absurd (h (over_no z f))
over-word z x None false h e = cc
over-word z x (Some y) false h e = sym (no-over h.0)
over-word z x (Some y) true h e = cc

-- both, as `Held` has them
pub held-word : (z v x : ℤ) (r : Option ℤ) (b : Bool) → v ≡ saturate_signed w32 z → SomeIff r (SFits w32 z) x → is_some r ≡ not b → ◌≡◌ {A = Held} (record { value = read w32 v; over = b }) (held_z z)
unfolding held_z
held-word z v x r b s h e =
    let value = ap (read w32) (s ∙ sat-word z) ∙ to_z-of_z (sat-fits z) in
    let over = over-word z x r b h e in
    λ i. record { value = value i; over = over i }
