-- Runs of stores: a store within one, and one run over another.
-- Assumes nothing.
use mathlib.Core.Path.{◌≡◌, refl, ap, ◌∙◌}
use mathlib.Core.List.{List, [], ◌∷◌}
use Prim.Native.Nat.{ℕ, zero, suc, ◌+◌, ◌<◌}
use native.Mathlib.Nat.{add-zero}
use native.Mathlib.Omega.{arith}
use lib.ListN.{length, set}
use lib.Seq.{sets, set-set, set_comm}

module _ {A : Type 0} where
  -- ---- a store before a run, and within it
  set_before : (l : List A) (b : ℕ) (xs : List A) (i : ℕ) (v : A) → i < b → set (sets l b xs) i v ≡ sets (set l i v) b xs
  set_before l b [] i v h = refl
  set_before l b (x ∷ xs) i v h = set_before (set l b x) (suc b) xs i v (omega arith) ∙ ap (λ (m : List A). sets m (suc b) xs) (set_comm l b i x v (λ e. omega arith))

  pub set-within : (l : List A) (b : ℕ) (xs : List A) (i : ℕ) (v : A) → i < length xs → set (sets l b xs) (b + i) v ≡ sets l b (set xs i v)
  set-within l b [] i v h = absurd (omega arith)
  set-within l b (x ∷ xs) zero v h =
      ap (λ (k : ℕ). set (sets (set l b x) (suc b) xs) k v) (add-zero b) ∙ set_before (set l b x) (suc b) xs b v (omega arith) ∙ ap (λ (m : List A). sets m (suc b) xs) (set-set l b x v)
  set-within l b (x ∷ xs) (suc i) v h =
      let e : b + suc i ≡ suc b + i = omega arith in
      ap (λ (k : ℕ). set (sets (set l b x) (suc b) xs) k v) e ∙ set-within (set l b x) (suc b) xs i v (omega arith)

  -- ---- a run over another
  pub sets_over : (l : List A) (b : ℕ) (xs ys : List A) → length xs ≡ length ys → sets (sets l b xs) b ys ≡ sets l b ys
  sets_over l b [] [] e = refl
  sets_over l b [] (y ∷ ys) e = absurd (omega arith)
  sets_over l b (x ∷ xs) [] e = absurd (omega arith)
  sets_over l b (x ∷ xs) (y ∷ ys) e =
      ap (λ (m : List A). sets m (suc b) ys) (set_before (set l b x) (suc b) xs b y (omega arith) ∙ ap (λ (m : List A). sets m (suc b) xs) (set-set l b x y)) ∙ sets_over (set l b y) (suc b) xs ys (omega arith)
