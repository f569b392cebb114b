-- The library's methods on signed numbers, by this repository's definitions.
-- Assumes nothing.
use mathlib.Core.Path.{◌≡◌, ap, ◌∙◌}
use mathlib.Core.Bool.{false}
use native.Mathlib.Omega.{arith}
use lib.IntN.{ℤ, pos, negsuc}
use lib.Signed.{lt_z}
use mir.Syntax.{w32}
use Rattle.std.specs.Int.{int_max, int_min, saturate_signed}
use Rattle.std.proofs.lemmas.Int.{int_max_is, int_min_is}
use Rattle.ints.specs.Z.{clamp_z, sat_z}
use Rattle.std.proofs.lemmas.Int.{ints}
use Rattle.ints.proofs.Linear.{clamp-z, min-z, sat-z}

clamp-is : (lo hi z : ℤ) → lt_z hi lo ≡ false → int_max lo (int_min z hi) ≡ clamp_z lo hi z
clamp-is lo hi z e = omega (arith, ints, int_max_is lo (int_min z hi), int_min_is z hi, clamp-z lo hi z e, min-z hi z)

-- what `clamp` and `saturating_mul` gave
pub clamped : (lo hi z : ℤ) {r x : ℤ} → lt_z hi lo ≡ false → r ≡ int_max lo (int_min z hi) → z ≡ x → r ≡ clamp_z lo hi x
clamped lo hi z e f g = f ∙ clamp-is lo hi z e ∙ ap (clamp_z lo hi) g

saturate-is : (z : ℤ) → saturate_signed w32 z ≡ sat_z z
saturate-is (pos n) = omega (arith, ints, sat-z (pos n))
saturate-is (negsuc n) = omega (arith, ints, sat-z (negsuc n))

pub saturated : {r z x : ℤ} → r ≡ saturate_signed w32 z → z ≡ x → r ≡ sat_z x
saturated {r} {z} f g = f ∙ saturate-is z ∙ ap sat_z g
