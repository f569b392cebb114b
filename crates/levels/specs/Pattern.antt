-- The coded block pattern of an inter macroblock: 0 to 47, luma modulo 16 and the chroma class over it.
-- Assumes nothing.
use Rattle.std.specs.Prelude.{Bool, cond, List, [], ◌∷◌, ℕ, ◌/◌, ◌%◌, ◌^◌, ◌<◌, ltb, get_or}
use Rattle.refusal.specs.Got.{Got, got, refused, map_got}
use Rattle.refusal.specs.declared.Refusal.{Refusal}
use Rattle.refusal.specs.declared.Refusal.TheVariants.{InvalidFrameCode}
use Rattle.bits.specs.Bits.{odd}
use Rattle.bits.specs.Code.{code, code_bits}
use Rattle.levels.specs.Lists.{place_of}

-- the pattern of each code
unfoldable pub patterns : List ℕ
patterns =
    0 ∷ 16 ∷ 1 ∷ 2 ∷ 4 ∷ 8 ∷ 32 ∷ 3 ∷ 5 ∷ 10 ∷ 12 ∷ 15 ∷ 47 ∷ 7 ∷ 11 ∷ 13 ∷ 14 ∷ 6 ∷ 9 ∷ 31 ∷ 35 ∷ 37 ∷ 42 ∷ 44 ∷
    33 ∷ 34 ∷ 36 ∷ 40 ∷ 39 ∷ 43 ∷ 45 ∷ 46 ∷ 17 ∷ 18 ∷ 20 ∷ 24 ∷ 19 ∷ 21 ∷ 26 ∷ 28 ∷ 23 ∷ 27 ∷ 29 ∷ 30 ∷ 22 ∷ 25 ∷ 38 ∷ 41 ∷ []

-- what passes the test is kept, anything else refused
abbrev pub keep : {X : Type 0} → (X → Bool) → (X → Refusal) → Got X → Got X
keep test why (got x n) = cond (test x) (got x n) (refused (why x))
keep test why (refused r) = refused r

-- a code below 48 is its pattern, any other is refused with the code
unfoldable pub pattern : List Bool → Got ℕ
pattern s = map_got (λ k. get_or patterns k 0) (keep (λ k. ltb k 48) InvalidFrameCode (code s))

-- the code whose entry a pattern is
abbrev pub pattern_code : ℕ → ℕ
pattern_code v = place_of v patterns

unfoldable pub pattern_bits : ℕ → List Bool
pattern_bits v = code_bits (pattern_code v)

abbrev pub PatternRange : ℕ → Type 0
PatternRange v = v < 48

-- a bit for each luma quadrant
abbrev pub luma_of : ℕ → ℕ
luma_of v = v % 16

-- 0: no chroma levels; 1: chroma DC; 2: chroma DC and AC
abbrev pub class_of : ℕ → ℕ
class_of v = v / 16

-- quadrant q is coded when luma has 2^q
unfoldable pub quadrant_coded : ℕ → ℕ → Bool
quadrant_coded v q = odd (luma_of v / 2 ^ q)
