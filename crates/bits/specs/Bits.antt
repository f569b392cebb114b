-- The bits of a list of bytes, highest first in each byte.
-- Assumes nothing.
use Rattle.std.specs.Prelude.{Bool, List, [], ◌∷◌, ◌++◌, ℕ, ◌/◌, ◌%◌, eqb}

abbrev pub odd : ℕ → Bool
odd n = eqb (n % 2) 1

abbrev pub byte_bits : ℕ → List Bool
byte_bits x = odd (x / 128) ∷ odd (x / 64) ∷ odd (x / 32) ∷ odd (x / 16) ∷ odd (x / 8) ∷ odd (x / 4) ∷ odd (x / 2) ∷ odd x ∷ []

unfoldable pub bit_list : List ℕ → List Bool
bit_list [] = []
bit_list (x ∷ xs) = byte_bits x ++ bit_list xs
