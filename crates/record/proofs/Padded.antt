-- Vectors as a record holds them: 32 numbers, of which the first n are used and the others are 0.
-- Assumes nothing.
use mathlib.Core.Path.{◌≡◌, refl, sym, ap, subst, ◌∙◌}
use mathlib.Core.Bool.{Bool}
use mathlib.Core.List.{List, ◌++◌}
use mathlib.Core.Logic.{⊎_elim}
use Prim.Native.Nat.{ℕ, zero, suc, ◌+◌, ◌-◌, ◌*◌, ◌≤◌, ◌<◌}
use native.Mathlib.Nat.{zero-add}
use native.Mathlib.Omega.{arith}
use lib.Dec.{leb, lit<, leb→le}
use lib.IntN.{ℤ, pos}
use lib.ListN.{length, get_or, take, drop, length-take, take-append-drop, get_or-eq_default}
use lib.Seq.{sets, sets-eq, length-sets, length-take-le, get_or-take, get_or-drop}
use Rattle.number.specs.SignedNumber.{SignedNumberRange}
use Rattle.number.proofs.Numbers.{lt-or-le}
use Rattle.levels.specs.Levels.{zeros}
use Rattle.levels.proofs.ShortTable.{at}
use Rattle.vectors.specs.Modes.{num_motion_vectors}
use Rattle.record.specs.Record.{no_vectors}
use Rattle.record.specs.Range.{I32s, VectorsRange}
use Rattle.levels.proofs.Sets.{take-through, drop-sets, drop-of-same}
use Rattle.record.proofs.Fields.{Signeds}

-- a record uses at most 32
right_used : ℕ → Bool
right_used mode = leb (2 * num_motion_vectors mode) 32

pub used-most : (mode : ℕ) → mode ≤ 7 → 2 * num_motion_vectors mode ≤ 32
unfolding right_used num_motion_vectors
used-most mode h = leb→le (2 * num_motion_vectors mode) 32 (at right_used 8 tt mode (omega arith))

pub length-no_vectors : length no_vectors ≡ 32
unfolding no_vectors
length-no_vectors = refl

-- the numbers that were put are the first ones
pub put_first : (n : ℕ) (vs xs : List ℤ) → n ≤ 32 → length vs ≡ n → xs ≡ sets no_vectors 0 vs → take n xs ≡ vs
put_first n vs xs h e p =
    ap (take n) p ∙ ap (λ (k : ℕ). take k (sets no_vectors 0 vs)) (sym (zero-add (length vs) ∙ e)) ∙ take-through no_vectors 0 vs (omega (arith, length-no_vectors))

module _ (n : ℕ) (few : n ≤ 32) (xs : List ℤ) where
  beyond : drop n no_vectors ≡ zeros (32 - n)
  unfolding no_vectors
  beyond = drop-of-same n 32 (pos 0)

  pub from-numbers : Signeds n (take n xs) → xs ≡ sets no_vectors 0 (take n xs) → VectorsRange n xs
  from-numbers h e =
      let none : drop n xs ≡ zeros (32 - n) = ap (drop n) e ∙ drop-sets n no_vectors 0 (take n xs) (omega (arith, h.0)) ∙ beyond in
      record {
        count = ap length e ∙ length-sets no_vectors 0 (take n xs) ∙ length-no_vectors;
        fits = λ i. ⊎_elim
            (λ (l : i < n). subst (λ (z : ℤ). SignedNumberRange z) (get_or-take n xs i (pos 0) l) (h.1 i))
            (λ (l : n ≤ i).
            let k : n + (i - n) ≡ i = omega arith in
            let z : get_or xs i (pos 0) ≡ pos 0 = ap (λ (j : ℕ). get_or xs j (pos 0)) (sym k) ∙ sym (get_or-drop n xs (i - n) (pos 0)) ∙ ap (λ (l : List ℤ). get_or l (i - n) (pos 0)) none ∙ zero-at (32 - n) (i - n) in
            rw z (lit< tt))
            (lt-or-le i n);
        others = none;
      }
    where
      zero-at : (m i : ℕ) → get_or (zeros m) i (pos 0) ≡ pos 0
      zero-at zero i = refl
      zero-at (suc m) zero = refl
      zero-at (suc m) (suc i) = zero-at m i

  pub to-numbers : VectorsRange n xs → Signeds n (take n xs) × (xs ≡ sets no_vectors 0 (take n xs))
  to-numbers v =
      let e : length (take n xs) ≡ n = length-take-le n xs (omega (arith, v.count)) in
      let p : 0 + length (take n xs) ≡ n = zero-add (length (take n xs)) ∙ e in (
        (e, first-fit),
        sym (take-append-drop n xs) ∙ ap (λ (l : List ℤ). take n xs ++ l) (v.others ∙ sym beyond) ∙ ap (λ (k : ℕ). take n xs ++ drop k no_vectors) (sym p)
            ∙ sym (sets-eq (take n xs) no_vectors 0 (omega (arith, length-no_vectors))),
      )
    where
      first-fit : I32s (take n xs)
      first-fit i = ⊎_elim
          (λ (l : i < n). rw (get_or-take n xs i (pos 0) l) (v.fits i))
          (λ (l : n ≤ i). let k : length (take n xs) ≤ i = omega (arith, length-take n xs) in rw (get_or-eq_default (take n xs) (pos 0) k) (lit< tt))
          (lt-or-le i n)
