-- The universal code: bit 1 is code 0; else data bit, marker, data bit, marker, until a marker is 1.
-- Assumes nothing.
use Rattle.std.specs.Prelude.{Bool, true, false, cond, List, [], ◌∷◌, ℕ, zero, suc, ◌+◌, ◌-◌, ◌*◌, ◌/◌, ◌^◌, ◌<◌, leb}
use Rattle.refusal.specs.Got.{Got, got, refused, after}
use Rattle.refusal.specs.declared.Refusal.TheVariants.{Truncated, BadBitWidth}
use Rattle.bits.specs.Bits.{odd}

abbrev pub bit_value : Bool → ℕ
bit_value true = 1
bit_value false = 0

-- from a marker on: `room` data bits may still come, and m is a 1 followed by the n data bits so far, 2^n + v; the code is m - 1
unfoldable pub code_from : ℕ → ℕ → List Bool → Got ℕ
code_from room m [] = refused Truncated
code_from room m (true ∷ s) = got (m - 1) 1
code_from zero m (false ∷ s) = refused (BadBitWidth 32)
code_from (suc room) m (false ∷ []) = refused Truncated
code_from (suc room) m (false ∷ d ∷ s) = after 2 (code_from room (2 * m + bit_value d) s)

-- the code at the head of s
unfoldable pub code : List Bool → Got ℕ
code s = code_from 31 1 s

-- the codes with at most 31 data bits
abbrev pub CodeRange : ℕ → Type 0
CodeRange k = k < 2 ^ 32 - 1

-- the n lowest bits of m, highest first, a marker 0 before each; then the marker 1
unfoldable pub marked : ℕ → ℕ → List Bool
marked zero m = true ∷ []
marked (suc n) m = false ∷ odd (m / 2 ^ n) ∷ marked n m

-- the binary places of m after its leading 1, of which there are at most f
unfoldable pub places_in : ℕ → ℕ → ℕ
places_in zero m = 0
places_in (suc f) m = cond (leb m 1) 0 (suc (places_in f (m / 2)))

-- the bits of code k: its data bits are the binary places of k + 1 after the leading 1
unfoldable pub code_bits : ℕ → List Bool
code_bits k = marked (places_in 31 (k + 1)) (k + 1)
