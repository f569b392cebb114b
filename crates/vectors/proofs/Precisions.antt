-- For each pair of flags the precision is a format: precision and flags determine the bits. And a precision and its number determine each other.
-- Assumes nothing.
use mathlib.Core.Path.{◌≡◌, refl, sym, subst}
use mathlib.Core.Bool.{Bool, true, false}
use mathlib.Core.List.{List, [], ◌∷◌, ◌++◌}
use Prim.Native.Nat.{ℕ, ◌≤◌}
use native.Mathlib.Omega.{arith}
use lib.ListN.{length}
use Rattle.refusal.specs.Got.{got}
use Rattle.refusal.specs.Format.{Came, Format}
use Rattle.refusal.proofs.Formats.{got-value, got-count, never}
use Rattle.vectors.specs.Precision.{precision_number, precision_of, both_flags, one_flag, precision, PrecisionRange, precision_bits}
use Rattle.vectors.specs.declared.svq3_mb.Svq3MvPrecision.{Svq3MvPrecision}
use Rattle.vectors.specs.declared.svq3_mb.Svq3MvPrecision.TheVariants.{Fullpel, Halfpel, Thirdpel}

no : {A : Type 0} → false ≡ true → A
no e = absurd (let z : ◌≡◌ {A = ℕ} 0 1 = cc in omega arith)

reads : (half third : Bool) (p : Svq3MvPrecision) (rest : List Bool) → PrecisionRange half third p
    → precision half third (precision_bits half third p ++ rest) ≡ got p (length (precision_bits half third p))
unfolding precision precision_bits both_flags one_flag
reads true true Fullpel rest h = refl
reads true true Halfpel rest h = refl
reads true true Thirdpel rest h = refl
reads true false Fullpel rest h = refl
reads true false Halfpel rest h = refl
reads true false Thirdpel rest h = no h
reads false true Fullpel rest h = refl
reads false true Halfpel rest h = no h
reads false true Thirdpel rest h = refl
reads false false Fullpel rest h = refl
reads false false Halfpel rest h = no h
reads false false Thirdpel rest h = no h

-- q was read, with what stands for it taken
read_as : (half third : Bool) (p : Svq3MvPrecision) (rest : List Bool) → PrecisionRange half third p → (q : Svq3MvPrecision) (n : ℕ)
    → got p (length (precision_bits half third p)) ≡ got q n → Came (precision_bits half third) (PrecisionRange half third) (precision_bits half third p ++ rest) q n
read_as half third p rest h q n e =
    subst (λ (x : Svq3MvPrecision). Came (precision_bits half third) (PrecisionRange half third) (precision_bits half third p ++ rest) x n) (got-value e)
    (record { in_range = h; starts = record { rest = rest; is = refl }; taken = sym (got-count e) })

came : (half third : Bool) (s : List Bool) (p : Svq3MvPrecision) (n : ℕ) → precision half third s ≡ got p n → Came (precision_bits half third) (PrecisionRange half third) s p n
unfolding precision precision_bits both_flags one_flag
came true true [] p n e = never e
came true true (false ∷ s) p n e = read_as true true Thirdpel s refl p n e
came true true (true ∷ []) p n e = never e
came true true (true ∷ false ∷ s) p n e = read_as true true Halfpel s refl p n e
came true true (true ∷ true ∷ s) p n e = read_as true true Fullpel s refl p n e
came true false [] p n e = never e
came true false (true ∷ s) p n e = read_as true false Halfpel s refl p n e
came true false (false ∷ s) p n e = read_as true false Fullpel s refl p n e
came false true [] p n e = never e
came false true (true ∷ s) p n e = read_as false true Thirdpel s refl p n e
came false true (false ∷ s) p n e = read_as false true Fullpel s refl p n e
came false false s p n e = read_as false false Fullpel s refl p n e

-- PRECISION AND FLAGS determine the bits
pub precision-format : (half third : Bool) → Format (precision half third) (precision_bits half third) (PrecisionRange half third)
precision-format half third = record { reads = reads half third; came = came half third }

-- ---- the number of a precision
pub number-most : (p : Svq3MvPrecision) → precision_number p ≤ 2
number-most Fullpel = omega arith
number-most Halfpel = omega arith
number-most Thirdpel = omega arith

pub of_number : (p : Svq3MvPrecision) → precision_of (precision_number p) ≡ p
unfolding precision_of
of_number Fullpel = refl
of_number Halfpel = refl
of_number Thirdpel = refl
