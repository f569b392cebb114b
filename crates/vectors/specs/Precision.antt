-- Precision bits. Both flags: 0 third, 10 half, 11 full. Half alone: 1 half, 0 full. Third alone: 1 third, 0 full. None: full, no bit.
-- Assumes nothing.
use Rattle.std.specs.Prelude.{◌≡◌, Bool, true, false, List, [], ◌∷◌, ℕ, zero, suc}
use Rattle.refusal.specs.Got.{Got, got, refused}
use Rattle.refusal.specs.declared.Refusal.TheVariants.{Truncated}
use Rattle.vectors.specs.declared.svq3_mb.Svq3MvPrecision.{Svq3MvPrecision}
use Rattle.vectors.specs.declared.svq3_mb.Svq3MvPrecision.TheVariants.{Fullpel, Halfpel, Thirdpel}

-- the number of a precision in a record
abbrev pub precision_number : Svq3MvPrecision → ℕ
precision_number Fullpel = 0
precision_number Halfpel = 1
precision_number Thirdpel = 2

unfoldable pub precision_of : ℕ → Svq3MvPrecision
precision_of zero = Fullpel
precision_of (suc zero) = Halfpel
precision_of (suc (suc n)) = Thirdpel

-- both flags
unfoldable pub both_flags : List Bool → Got Svq3MvPrecision
both_flags [] = refused Truncated
both_flags (false ∷ s) = got Thirdpel 1
both_flags (true ∷ []) = refused Truncated
both_flags (true ∷ false ∷ s) = got Halfpel 2
both_flags (true ∷ true ∷ s) = got Fullpel 2

-- the flag of p alone
unfoldable pub one_flag : Svq3MvPrecision → List Bool → Got Svq3MvPrecision
one_flag p [] = refused Truncated
one_flag p (true ∷ s) = got p 1
one_flag p (false ∷ s) = got Fullpel 1

-- the precision at the head of s, by the flags half and third
unfoldable pub precision : Bool → Bool → List Bool → Got Svq3MvPrecision
precision true true s = both_flags s
precision true false s = one_flag Halfpel s
precision false true s = one_flag Thirdpel s
precision false false s = got Fullpel 0

-- whether the flags allow a precision
abbrev pub allowed : Bool → Bool → Svq3MvPrecision → Bool
allowed half third Fullpel = true
allowed half third Halfpel = half
allowed half third Thirdpel = third

abbrev pub PrecisionRange : Bool → Bool → Svq3MvPrecision → Type 0
PrecisionRange half third p = allowed half third p ≡ true

-- the bits of a precision with both flags, and with the flag of one other precision alone
abbrev pub both_bits : Svq3MvPrecision → List Bool
both_bits Thirdpel = false ∷ []
both_bits Halfpel = true ∷ false ∷ []
both_bits Fullpel = true ∷ true ∷ []

abbrev pub one_bit : Svq3MvPrecision → List Bool
one_bit Fullpel = false ∷ []
one_bit Halfpel = true ∷ []
one_bit Thirdpel = true ∷ []

-- the bits of a precision that the flags half and third allow
unfoldable pub precision_bits : Bool → Bool → Svq3MvPrecision → List Bool
precision_bits true true p = both_bits p
precision_bits true false p = one_bit p
precision_bits false true p = one_bit p
precision_bits false false p = []
