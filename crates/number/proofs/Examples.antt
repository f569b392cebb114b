-- Numbers as bytes, computed: the widest of each length, numbers that are refused, and signed numbers.
-- Assumes nothing.
use mathlib.Core.Path.{◌≡◌, refl}
use mathlib.Core.List.{[], ◌∷◌}
use lib.IntN.{pos, negsuc}
use Rattle.refusal.specs.Got.{got, refused}
use Rattle.refusal.specs.declared.Refusal.TheVariants.{NumberForm}
use Rattle.number.specs.Number.{groups, number, low_then, read_number}
use Rattle.number.specs.SignedNumber.{sent, received, signed_number, read_signed}

pub written : (number 127 ≡ 127 ∷ []) × (number 128 ≡ 128 ∷ 1 ∷ []) × (number 16383 ≡ 255 ∷ 127 ∷ []) × (number 4294967295 ≡ 255 ∷ 255 ∷ 255 ∷ 255 ∷ 15 ∷ [])
unfolding groups number
written = (refl, refl, refl, refl)

-- incomplete, not the shortest, 2^32, six groups
pub not-numbers : (read_number (128 ∷ []) ≡ refused NumberForm) × (read_number (128 ∷ 0 ∷ []) ≡ refused NumberForm)
    × (read_number (128 ∷ 128 ∷ 128 ∷ 128 ∷ 16 ∷ []) ≡ refused NumberForm) × (read_number (129 ∷ 128 ∷ 128 ∷ 128 ∷ 128 ∷ 1 ∷ []) ≡ refused NumberForm)
unfolding low_then read_number
not-numbers = (refl, refl, refl, refl)

-- + 6, - 1, the least i32; what follows a number is left
pub signed : (signed_number (pos 6) ≡ 12 ∷ []) × (signed_number (negsuc 0) ≡ 1 ∷ []) × (signed_number (negsuc 2147483647) ≡ 255 ∷ 255 ∷ 255 ∷ 255 ∷ 15 ∷ [])
    × (read_signed (12 ∷ 0 ∷ []) ≡ got (pos 6) 1)
unfolding groups number low_then read_number sent received signed_number read_signed
signed = (refl, refl, refl, refl)
