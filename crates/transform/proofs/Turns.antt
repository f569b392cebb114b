-- A turn of the loop over columns: four numbers stored at places apart.
-- Assumes nothing.
use mathlib.Core.Path.{◌≡◌, ap, ◌∙◌}
use mathlib.Core.Logic.{◌≢◌, ⊎_elim}
use mathlib.Core.List.{List}
use Prim.Native.Nat.{ℕ, ◌+◌, ◌*◌, ◌<◌}
use native.Mathlib.Nat.{eq-or-lt_of_le, le_of_suc-le-suc}
use native.Mathlib.Numerals.{add-one}
use native.Mathlib.Omega.{arith}
use lib.IntN.{ℤ, pos}
use lib.ListN.{length, get_or, set, length-set}
use lib.Seq.{get_or-set_same, get_or-set_other}
use Rattle.transform.specs.InnerPasses.{column_sums, Columns}
use Rattle.transform.proofs.Laws.{below-4}

module _ (l : List ℤ) (p q r s : ℕ) (a b c d : ℤ) where
  abbrev pub four : List ℤ
  four = set (set (set (set l p a) q b) r c) s d

  four-length : length four ≡ length l
  four-length = simp length-set

  four-other : (n : ℕ) → n ≢ p → n ≢ q → n ≢ r → n ≢ s → get_or four n (pos 0) ≡ get_or l n (pos 0)
  four-other n e f g h =
      get_or-set_other (set (set (set l p a) q b) r c) s n d (pos 0) h ∙ get_or-set_other (set (set l p a) q b) r n c (pos 0) g
      ∙ get_or-set_other (set l p a) q n b (pos 0) f
      ∙ get_or-set_other l p n a (pos 0) e

  module _ (u : p < q) (v : q < r) (w : r < s) (z : s < length l) where
    four-first : get_or four p (pos 0) ≡ a
    four-first =
        get_or-set_other (set (set (set l p a) q b) r c) s p d (pos 0) (omega arith) ∙ get_or-set_other (set (set l p a) q b) r p c (pos 0) (omega arith)
        ∙ get_or-set_other (set l p a) q p b (pos 0) (omega arith)
        ∙ get_or-set_same l p a (pos 0) (omega arith)

    four-second : get_or four q (pos 0) ≡ b
    four-second =
        get_or-set_other (set (set (set l p a) q b) r c) s q d (pos 0) (omega arith) ∙ get_or-set_other (set (set l p a) q b) r q c (pos 0) (omega arith)
        ∙ get_or-set_same (set l p a) q b (pos 0) (simp length-set (omega arith))

    four-third : get_or four r (pos 0) ≡ c
    four-third = get_or-set_other (set (set (set l p a) q b) r c) s r d (pos 0) (omega arith) ∙ get_or-set_same (set (set l p a) q b) r c (pos 0) (simp length-set (omega arith))

    four-fourth : get_or four s (pos 0) ≡ d
    four-fourth = get_or-set_same (set (set (set l p a) q b) r c) s d (pos 0) (simp length-set (omega arith))

-- what stands at a place, said of the same place
at_place : (l : List ℤ) {m n : ℕ} {v : ℤ} → m ≡ n → get_or l n (pos 0) ≡ v → get_or l m (pos 0) ≡ v
at_place l e f = ap (λ k. get_or l k (pos 0)) e ∙ f

-- one more column
pub columns-turn : {y : List (List ℤ)} {dc : ℤ} {k : ℕ} {r : List ℤ} (t : List ℤ) {a b c d : ℤ} → Columns y dc k r → k < 4 → t ≡ column_sums y k dc
    → a ≡ get_or t 0 (pos 0) → b ≡ get_or t 1 (pos 0) → c ≡ get_or t 2 (pos 0) → d ≡ get_or t 3 (pos 0)
    → Columns y dc (k + 1) (four r k (k + 4) (k + 8) (k + 12) a b c d)
columns-turn {y} {dc} {k} {r} t {a} {b} {c} {d} h l e ea eb ec ed =
    record { size = four-length r k (k + 4) (k + 8) (k + 12) a b c d ∙ h.size; done = go }
  where
    r' : List ℤ
    r' = four r k (k + 4) (k + 8) (k + 12) a b c d

    is : (j : ℕ) {v : ℤ} → v ≡ get_or t j (pos 0) → v ≡ get_or (column_sums y k dc) j (pos 0)
    is j g = g ∙ ap (λ m. get_or m j (pos 0)) e

    here : (j : ℕ) → j < 4 → get_or r' (4 * j + k) (pos 0) ≡ get_or (column_sums y k dc) j (pos 0)
    here =
        below-4 (λ j. get_or r' (4 * j + k) (pos 0) ≡ get_or (column_sums y k dc) j (pos 0))
        (at_place r' (omega arith) (four-first r k (k + 4) (k + 8) (k + 12) a b c d (omega arith) (omega arith) (omega arith) (omega (arith, h.size)) ∙ is 0 ea))
        (at_place r' (omega arith) (four-second r k (k + 4) (k + 8) (k + 12) a b c d (omega arith) (omega arith) (omega arith) (omega (arith, h.size)) ∙ is 1 eb))
        (at_place r' (omega arith) (four-third r k (k + 4) (k + 8) (k + 12) a b c d (omega arith) (omega arith) (omega arith) (omega (arith, h.size)) ∙ is 2 ec))
        (at_place r' (omega arith) (four-fourth r k (k + 4) (k + 8) (k + 12) a b c d (omega arith) (omega arith) (omega arith) (omega (arith, h.size)) ∙ is 3 ed))

    go : (j m : ℕ) → j < 4 → m < k + 1 → get_or r' (4 * j + m) (pos 0) ≡ get_or (column_sums y m dc) j (pos 0)
    go j m lj lm =
        ⊎_elim
        (λ g. rw g (here j lj))
        (λ lt.
        four-other r k (k + 4) (k + 8) (k + 12) a b c d (4 * j + m) (omega arith) (omega arith) (omega arith) (omega arith)
        ∙ h.done j m lj lt)
        (eq-or-lt_of_le (le_of_suc-le-suc (rw (add-one k) at lm)))
