-- Worked examples, computed: codes of document 01, the longest code, the first that is too long, and one that is cut off.
-- Assumes nothing.
use mathlib.Core.Path.{◌≡◌, refl}
use mathlib.Core.Bool.{true, false}
use mathlib.Core.List.{[], ◌∷◌}
use lib.IntN.{pos, negsuc}
use Rattle.refusal.specs.Got.{got, refused}
use Rattle.refusal.specs.declared.Refusal.TheVariants.{Truncated, BadBitWidth}
use Rattle.bits.specs.Bits.{bit_list}
use Rattle.bits.specs.Code.{code, code_from, code_bits, marked, places_in}
use Rattle.bits.specs.Signed.{signed_of}

pub examples :
    (code (true ∷ []) ≡ got 0 1)
    × (code (false ∷ false ∷ true ∷ []) ≡ got 1 3)
    × (code (false ∷ false ∷ false ∷ false ∷ true ∷ []) ≡ got 3 5)
    × (code (false ∷ true ∷ false ∷ true ∷ true ∷ []) ≡ got 6 5)
    × (code_bits 6 ≡ false ∷ true ∷ false ∷ true ∷ true ∷ [])
    × (code (bit_list (0x55 ∷ 0x55 ∷ 0x55 ∷ 0x55 ∷ 0x55 ∷ 0x55 ∷ 0x55 ∷ 0x56 ∷ [])) ≡ got 4294967294 63)
    × (code (bit_list (0 ∷ 0 ∷ 0 ∷ 0 ∷ 0 ∷ 0 ∷ 0 ∷ 0 ∷ [])) ≡ refused (BadBitWidth 32))
    × (code (bit_list (0 ∷ [])) ≡ refused Truncated)
    × (signed_of 3 ≡ pos 2)
    × (signed_of 4 ≡ negsuc 1)
unfolding code code_from code_bits marked places_in bit_list signed_of
examples = (refl, refl, refl, refl, refl, refl, refl, refl, refl, refl)
