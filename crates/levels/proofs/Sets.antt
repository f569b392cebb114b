-- A run of stores into a list: what it leaves before, behind and at its places; and one run after another.
-- Assumes nothing.
use mathlib.Core.Path.{◌≡◌, refl, sym, ap, ◌∙◌}
use mathlib.Core.List.{List, [], ◌∷◌, ◌++◌}
use Prim.Native.Nat.{ℕ, zero, suc, ◌+◌, ◌-◌, ◌≤◌}
use native.Mathlib.Nat.{add-zero}
use native.Mathlib.Omega.{arith}
use lib.ListN.{length, take, drop, set, replicate, length-append}
use Rattle.std.proofs.lemmas.List.{drop-replicate, take-replicate}
use lib.Seq.{sets, sets-eq, take-nil, take-set-le, drop-set-lt, take-add, take_at, drop_at, length-take-le}

module _ {A : Type 0} where
  -- before its places
  pub take-sets : (n : ℕ) (l : List A) (at : ℕ) (vs : List A) → n ≤ at → take n (sets l at vs) ≡ take n l
  take-sets n l at [] h = refl
  take-sets n l at (v ∷ vs) h = take-sets n (set l at v) (suc at) vs (omega arith) ∙ take-set-le n l at v h

  -- behind them
  pub drop-sets : (n : ℕ) (l : List A) (at : ℕ) (vs : List A) → at + length vs ≤ n → drop n (sets l at vs) ≡ drop n l
  drop-sets n l at [] h = refl
  drop-sets n l at (v ∷ vs) h = drop-sets n (set l at v) (suc at) vs (omega arith) ∙ drop-set-lt n l at v (omega arith)

  -- up to their end
  pub take-through : (l : List A) (at : ℕ) (vs : List A) → at + length vs ≤ length l → take (at + length vs) (sets l at vs) ≡ take at l ++ vs
  take-through l at vs h =
      ap (take (at + length vs)) (sets-eq vs l at h)
      ∙ take_at (take at l ++ vs) (drop (at + length vs) l) (at + length vs) (length-append (take at l) vs ∙ ap (λ (n : ℕ). n + length vs) (length-take-le at l (omega arith)))

  -- one run after another is one run
  pub sets-append : (l : List A) (at : ℕ) (us vs : List A) → sets l at (us ++ vs) ≡ sets (sets l at us) (at + length us) vs
  sets-append l at [] vs = ap (λ (n : ℕ). sets l n vs) (sym (add-zero at))
  sets-append l at (u ∷ us) vs = sets-append (set l at u) (suc at) us vs ∙ ap (λ (n : ℕ). sets (sets (set l at u) (suc at) us) n vs) (omega arith)

  -- ---- parts of a list
  -- the first n, and m more, are the first n + m
  pub same_more : (n m : ℕ) (l k : List A) → take n l ≡ take n k → take m (drop n l) ≡ take m (drop n k) → take (n + m) l ≡ take (n + m) k
  same_more n m l k p q = rw (take-add n m l, take-add n m k, p, q)

  -- the part behind the first n, when those are `front`
  pub part-after : (n m : ℕ) (l front vs : List A) → length front ≡ n → n ≤ length l → take (n + m) l ≡ front ++ vs → take m (drop n l) ≡ vs
  part-after n m l front vs e h p =
      sym (drop_at (take n l) (take m (drop n l)) n (length-take-le n l h)) ∙ ap (drop n) (sym (take-add n m l) ∙ p) ∙ drop_at front vs n e

  -- any part of equal elements
  pub part-of-same : (n at m : ℕ) (a : A) → at + n ≤ m → take n (drop at (replicate m a)) ≡ replicate n a
  part-of-same n at m a h = rw (drop-replicate at m a) (take-replicate n (m - at) a (omega arith))

  pub drop-of-same : (n m : ℕ) (a : A) → drop n (replicate m a) ≡ replicate (m - n) a
  drop-of-same = drop-replicate

  pub drop_of_take : (n m : ℕ) (l : List A) → drop n (take m l) ≡ take (m - n) (drop n l)
  drop_of_take zero m l = ap (λ (k : ℕ). take k l) (minus-zero m)
    where
      minus-zero : (k : ℕ) → k ≡ k - 0
      minus-zero k = omega arith
  drop_of_take (suc n) zero l = sym (ap (λ (k : ℕ). take k (drop (suc n) l)) (none (suc n)))
    where
      none : (k : ℕ) → 0 - k ≡ 0
      none k = omega arith
  drop_of_take (suc n) (suc m) [] = sym (take-nil (suc m - suc n))
  drop_of_take (suc n) (suc m) (x ∷ l) = drop_of_take n m l ∙ ap (λ (k : ℕ). take k (drop n l)) (both m n)
    where
      both : (j k : ℕ) → j - k ≡ suc j - suc k
      both j k = omega arith
