-- Small levels: nothing saturates, and what the passes of `exact` leave are the residuals.
-- Assumes nothing.
use mathlib.Core.Path.{◌≡◌, refl, sym, ap, subst, ◌∙◌}
use mathlib.Core.Logic.{⊎_elim}
use mathlib.Core.Bool.{Bool, true, false, ◌&&◌, false≢true}
use mathlib.Core.List.{List, [], ◌∷◌, map}
use Prim.Native.Nat.{ℕ, zero, suc, ◌+◌, ◌*◌, ◌/◌, ◌%◌, ◌<◌, ◌≤◌}
use native.Mathlib.Nat.{div-add-mod, zero-add, mul_comm, mul-le-mul_left, div-mul-le_self}
use native.Mathlib.Omega.{arith}
use borrow.Author.Tests.{leb-true}
use lib.Dec.{lit≤}
use lib.IntN.{ℤ, pos, nat_abs, ◌*ℤ◌, *ℤ_comm}
use lib.Signed.{mag}
use lib.ListN.{length, get_or, drop, take, get_or-eq_default}
use lib.Seq.{get_or-drop, get_or-take}
use Rattle.std.proofs.lemmas.Bool.{cases_lt}
use Rattle.ints.specs.Z.{sat_z}
use Rattle.ints.proofs.Laws.{sat-same}
use Rattle.transform.specs.Residual.{placed, scaled, sum_of, weighed, rows_of, columns_of, rounded, residual}
use Rattle.transform.specs.InnerArrays.{Short}
use Rattle.transform.specs.InnerPasses.{Small, sums_of, all_within, exact_at, SmallFrom, Exact, row_sums, Rows, column_sums, Columns}
use Rattle.transform.proofs.Laws.{below-4}
use Rattle.transform.proofs.Sums.{abs-times, abs-fits, sum-abs, sums_at, weighed-exact, rounded-within}

rounded-at : (dc a b c d : ℤ) (k : ℕ) → k < 4 → get_or (map (λ t. rounded t dc) (sums_of a b c d)) k (pos 0) ≡ rounded (sum_of k a b c d) dc
unfolding sums_of
rounded-at dc a b c d k h = below-4 (λ k. get_or (map (λ t. rounded t dc) (sums_of a b c d)) k (pos 0) ≡ rounded (sum_of k a b c d) dc) refl refl refl refl k h

module _ {scale : ℕ} {levels : List ℤ} (h : Exact scale levels) where
  -- number k of a row, and its size
  row_at : ℕ → ℕ → ℤ
  row_at i k = get_or (row_sums scale levels (4 * i)) k (pos 0)

  row_is : (i k : ℕ) → k < 4 → row_at i k ≡ sum_of k (exact_at scale levels (4 * i)) (exact_at scale levels (4 * i + 1)) (exact_at scale levels (4 * i + 2)) (exact_at scale levels (4 * i + 3))
  unfolding row_at row_sums
  row_is i k lk = sums_at _ _ _ _ k lk

  row-abs : (i k : ℕ) → i < 16 → nat_abs (row_at i k) ≤ 40000000
  unfolding row_at row_sums sums_of
  row-abs i k li =
      ⊎_elim
      (λ lk. omega (arith, ap nat_abs (row_is i k lk), sum-abs k 800000 (h.small i li)))
      (λ past. omega (arith, ap nat_abs (get_or-eq_default (row_sums scale levels (4 * i)) (pos 0) {n = k} past)))
      (cases_lt k 4)

  -- the first pass, whole
  rows-abs : (y : List (List ℤ)) → Rows scale levels 16 y → (n k : ℕ) → nat_abs (get_or (get_or y n []) k (pos 0)) ≤ 40000000
  unfolding row_at
  rows-abs y r n k =
      ⊎_elim
      (λ l. omega (arith, ap (λ (row : List ℤ). nat_abs (get_or row k (pos 0))) (r.done n l), row-abs n k l))
      (λ past. omega (arith, ap (λ (row : List ℤ). nat_abs (get_or row k (pos 0))) (get_or-eq_default y [] {n = n} (omega (arith, r.size)))))
      (cases_lt n 16)

  -- its rows from those of a block on
  pub block-abs : (y : List (List ℤ)) → Rows scale levels 16 y → (b n k : ℕ) → nat_abs (get_or (get_or (drop (4 * b) y) n []) k (pos 0)) ≤ 40000000
  block-abs y r b n k = omega (arith, ap (λ (row : List ℤ). nat_abs (get_or row k (pos 0))) (get_or-drop (4 * b) y n []), rows-abs y r (4 * b + n) k)

  -- ---- block b of the four, whose rows are 4 b to 4 b + 3
  module _ (b : ℕ) (lb : b < 4) where
    block : ℕ → ℕ → ℤ
    block = placed levels (16 * b)

    scaled_at_lem : (m c n : ℕ) → 16 * b + (4 * m + c) ≡ n → nat_abs (exact_at scale levels n) ≤ 800000 → scaled scale block m c ≡ exact_at scale levels n
    unfolding block scaled placed exact_at
    scaled_at_lem m c n e l = ap (λ k. sat_z (get_or levels k (pos 0) *ℤ pos scale)) e ∙ sat-same (abs-fits 800000 _ l (lit≤ tt))

    -- the rows and the columns of the definition are those of the code
    rows_is : (m j : ℕ) → m < 4 → j < 4 → rows_of (scaled scale block) m j ≡ row_at (4 * b + m) j
    unfolding rows_of
    rows_is m j lm lj =
        let s = h.small (4 * b + m) (omega arith) in
        let e0 = scaled_at_lem m 0 (4 * (4 * b + m)) (omega arith) s.first in
        let e1 = scaled_at_lem m 1 (4 * (4 * b + m) + 1) (omega arith) s.second in
        let e2 = scaled_at_lem m 2 (4 * (4 * b + m) + 2) (omega arith) s.third in
        let e3 = scaled_at_lem m 3 (4 * (4 * b + m) + 3) (omega arith) s.fourth in
        (λ i. weighed j (e0 i) (e1 i) (e2 i) (e3 i)) ∙ weighed-exact j 800000 (lit≤ tt) s ∙ sym (row_is (4 * b + m) j lj)

    rows-small : (j : ℕ) → Small 40000000 (row_at (4 * b + 0) j) (row_at (4 * b + 1) j) (row_at (4 * b + 2) j) (row_at (4 * b + 3) j)
    rows-small j = record { first = row-abs _ j (omega arith); second = row-abs _ j (omega arith); third = row-abs _ j (omega arith); fourth = row-abs _ j (omega arith) }

    columns-is : (i j : ℕ) → j < 4 → columns_of (rows_of (scaled scale block)) i j ≡ sum_of i (row_at (4 * b + 0) j) (row_at (4 * b + 1) j) (row_at (4 * b + 2) j) (row_at (4 * b + 3) j)
    unfolding columns_of
    columns-is i j lj =
        let e0 = rows_is 0 j (omega arith) lj in
        let e1 = rows_is 1 j (omega arith) lj in
        let e2 = rows_is 2 j (omega arith) lj in
        let e3 = rows_is 3 j (omega arith) lj in
        (λ k. weighed i (e0 k) (e1 k) (e2 k) (e3 k)) ∙ weighed-exact i 40000000 (lit≤ tt) (rows-small j)

    -- it leaves room for a sample
    residual-short : (dc : ℤ) (i j : ℕ) → j < 4 → nat_abs dc ≤ 800000 → mag (residual scale dc (placed levels (16 * b)) i j) < 4096
    unfolding residual block
    residual-short dc i j lj k = (rounded-within (columns_of (rows_of (scaled scale block)) i j) dc (omega (arith, ap nat_abs (columns-is i j lj), sum-abs i 40000000 (rows-small j))) k).within

    -- the columns of the code, rounded, are the residual
    module _ (y : List (List ℤ)) (r : Rows scale levels 16 y) (dc : ℤ) (t : List ℤ) (c : Columns (drop (4 * b) y) dc 4 t) where
      cell : (m j : ℕ) → m < 4 → get_or (get_or (drop (4 * b) y) m []) j (pos 0) ≡ row_at (4 * b + m) j
      unfolding row_at
      cell m j lm = ap (λ (row : List ℤ). get_or row j (pos 0)) (get_or-drop (4 * b) y m [] ∙ r.done (4 * b + m) (omega arith))

      column-is : (i j : ℕ) → i < 4 → j < 4 → get_or (column_sums (drop (4 * b) y) j dc) i (pos 0) ≡ residual scale dc (placed levels (16 * b)) i j
      unfolding column_sums residual block
      column-is i j li lj =
          let e0 = cell 0 j (omega arith) in
          let e1 = cell 1 j (omega arith) in
          let e2 = cell 2 j (omega arith) in
          let e3 = cell 3 j (omega arith) in
          rounded-at dc _ _ _ _ i li ∙ ap (λ t. rounded t dc) ((λ k. sum_of i (e0 k) (e1 k) (e2 k) (e3 k)) ∙ sym (columns-is i j lj))

      pub block-is : (i j : ℕ) → i < 4 → j < 4 → placed t 0 i j ≡ residual scale dc (placed levels (16 * b)) i j
      unfolding placed
      block-is i j li lj = ap (λ n. get_or t n (pos 0)) (zero-add (4 * i + j)) ∙ c.done i j li lj ∙ column-is i j li lj

      pub block-short : nat_abs dc ≤ 800000 → Short t
      block-short k = record { small = go }
        where
          go : (n : ℕ) → mag (get_or t n (pos 0)) < 4096
          go n =
              ⊎_elim
              (λ l.
              let q : n / 4 < 4 = omega arith in
              let m : n % 4 < 4 = omega arith in
              let e : n ≡ 4 * (n / 4) + n % 4 = omega (arith, div-add-mod n 4) in
              subst (λ (z : ℤ). mag z < 4096) (sym (ap (λ k. get_or t k (pos 0)) e ∙ c.done (n / 4) (n % 4) q m ∙ column-is (n / 4) (n % 4) q m)) (residual-short dc (n / 4) (n % 4) m k))
              (λ past. omega (arith, ap mag (get_or-eq_default t (pos 0) {n = n} (omega (arith, c.size)))))
              (cases_lt n 16)

-- ---- what `all_small` has tested
both : (a b : Bool) → (a && b) ≡ true → (a ≡ true) × (b ≡ true)
both true b e = (refl, e)
both false b e = absurd (false≢true e)

all-within-at : (m : ℕ) (l : List ℤ) → all_within m l ≡ true → (k : ℕ) → nat_abs (get_or l k (pos 0)) ≤ m
all-within-at m [] e k = omega arith
all-within-at m (x ∷ l) e zero = leb-true (nat_abs x) m (both _ _ e).0
all-within-at m (x ∷ l) e (suc k) = all-within-at m l (both _ _ e).1 k

-- a level within what the entry leaves of 800,000
exact-small : (scale : ℕ) (l : List ℤ) (n : ℕ) → nat_abs (get_or l n (pos 0)) ≤ 800000 / scale → nat_abs (exact_at scale l n) ≤ 800000
unfolding exact_at
exact-small scale l n h =
    rw (*ℤ_comm (get_or l n (pos 0)) (pos scale))
    (omega (arith, abs-times scale (get_or l n (pos 0)), mul-le-mul_left scale h, div-mul-le_self 800000 scale, mul_comm scale (800000 / scale)))

pub small-exact : (scale : ℕ) (levels dc : List ℤ) → 64 ≤ length levels → (all_within 800000 dc && all_within (800000 / scale) (take 64 levels)) ≡ true
    → Exact scale levels × ((b : ℕ) → b < 4 → nat_abs (get_or dc b (pos 0)) ≤ 800000)
small-exact scale levels dc r e = (record { room = r; small = small }, λ b lb. all-within-at 800000 dc t.0 b)
  where
    t : (all_within 800000 dc ≡ true) × (all_within (800000 / scale) (take 64 levels) ≡ true)
    t = both (all_within 800000 dc) (all_within (800000 / scale) (take 64 levels)) e

    at : (n : ℕ) → n < 64 → nat_abs (exact_at scale levels n) ≤ 800000
    at n l = exact-small scale levels n (omega (arith, ap nat_abs (get_or-take 64 levels n (pos 0) l), all-within-at (800000 / scale) (take 64 levels) t.1 n))

    small : (i : ℕ) → i < 16 → SmallFrom scale levels (4 * i)
    small i li = record { first = at _ (omega arith); second = at _ (omega arith); third = at _ (omega arith); fourth = at _ (omega arith) }
