-- The printer's lines, as bytes of ASCII.
-- Assumes nothing.
use Rattle.std.specs.Prelude.{List, [], ◌∷◌, ◌++◌, ℕ, zero, suc, ◌+◌, ◌/◌, ◌%◌, ltb}
use Rattle.ints.specs.Z.{when◌then◌else◌}
use Rattle.refusal.specs.Refusal.{number_of}
use Rattle.refusal.specs.declared.Refusal.{Refusal}

-- 0 to 9, then a to f
unfoldable pub hex_digit : ℕ → ℕ
hex_digit n = when ltb n 10 then 48 + n else 87 + n

-- two digits a byte
unfoldable pub hex_bytes : List ℕ → List ℕ
hex_bytes [] = []
hex_bytes (b ∷ bytes) = hex_digit (b / 16) ∷ hex_digit (b % 16) ∷ hex_bytes bytes

-- the digits of n, highest first, after at most that many divisions by ten
unfoldable pub digits : ℕ → ℕ → List ℕ
digits zero n = (48 + n % 10) ∷ []
digits (suc turns) n = when ltb n 10 then (48 + n) ∷ [] else digits turns (n / 10) ++ (48 + n % 10) ∷ []

-- n in decimal; n divisions are enough
unfoldable pub decimal : ℕ → List ℕ
decimal n = digits n n

unfoldable pub line : List ℕ → List ℕ
line text = text ++ 10 ∷ []

-- a record
unfoldable pub hex_line : List ℕ → List ℕ
hex_line bytes = line (hex_bytes bytes)

-- a word and a number
unfoldable pub count_line : List ℕ → ℕ → List ℕ
count_line word n = line (word ++ decimal n)

-- `bits N`
unfoldable pub bits_line : ℕ → List ℕ
bits_line = count_line (98 ∷ 105 ∷ 116 ∷ 115 ∷ 32 ∷ [])

-- `refused C`
unfoldable pub refused_line : Refusal → List ℕ
refused_line why = count_line (114 ∷ 101 ∷ 102 ∷ 117 ∷ 115 ∷ 101 ∷ 100 ∷ 32 ∷ []) (number_of why)
