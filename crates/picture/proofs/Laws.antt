-- Laws of what a plane holds afterwards: rows of stores are `painted`, what was painted is read back, all else is as it was, and what lies apart may be painted in either order.
-- Assumes nothing.
use mathlib.Core.Path.{◌≡◌, refl, sym, ap, ◌∙◌}
use mathlib.Core.Logic.{◌≢◌, ⊎_elim}
use mathlib.Core.Bool.{Bool, true, false, cond, ◌&&◌, true≢false, false≢true}
use mathlib.Core.List.{List, [], ◌∷◌}
use Prim.Native.Nat.{ℕ, zero, suc, ◌+◌, ◌-◌, ◌*◌, ◌/◌, ◌%◌, ◌≤◌, ◌<◌}
use native.Mathlib.Nat.{add_assoc, mul-le-mul_right, mul-le-mul_left, mul-suc, mul_assoc, mul_comm, mul_left_comm, mul-pos, suc-mul, le-mul_of_pos_right, eq-or-lt_of_le, le_of_suc-le-suc, not-suc-le-zero, div-add-mod'}
use native.Mathlib.Numerals.{add-one}
use native.Mathlib.Omega.{arith}
use lib.Dec.{leb, ltb}
use lib.Arith.{digits_div, digits_mod}
use lib.ListN.{length, get_or, set, length-set}
use lib.Seq.{paste, get_or-set_same, get_or-set_other, ext_get_or}
use borrow.Author.Tests.{ltb-true, leb-true, lt-ltb, le-leb}
use Rattle.std.proofs.lemmas.List.Edits.{paste_none, paste_more}
use Rattle.picture.specs.Painted.{each_at, within, inside, painted, Inside}
use Rattle.picture.specs.Picture.{seen, copied}
use Rattle.picture.specs.InnerPicture.{Within}
use Rattle.picture.specs.InnerRows.{row, rows}

-- one more row of k fits, where n rows are fewer than m
pub more : {n m : ℕ} (k : ℕ) → n < m → n * k + k ≤ m * k
more {n} k h = rw suc-mul at (mul-le-mul_right k h)

-- ---- row r of a block that lies inside ends within the plane, and its number is no larger
pub record Row (s x y w r size : ℕ) : Type 0 where
  pub ends : (y + r) * s + x + w ≤ size
  pub small : y + r ≤ (y + r) * s

pub inside-row : {s x y w h size r : ℕ} → Inside s x y w h size → r < h → Row s x y w r size
inside-row {s} {x} {y} {w} {h} {size} {r} i l =
    let m : (y + r) * s + s ≤ (y + h) * s = more s (omega arith) in
    record { ends = omega arith; small = le-mul_of_pos_right (y + r) i.some }

-- ---- row and rows
module _ {A : Type 0} where
  pub row-length : (l : List A) (at : ℕ) (v : ℕ → A) (n : ℕ) → length (row l at v n) ≡ length l
  unfolding row
  row-length l at v zero = refl
  row-length l at v (suc n) = length-set (row l at v n) (at + n) (v n) ∙ row-length l at v n

  rows-length : (l : List A) (s x y : ℕ) (v : ℕ → ℕ → A) (w h : ℕ) → length (rows l s x y v w h) ≡ length l
  unfolding rows
  rows-length l s x y v w zero = refl
  rows-length l s x y v w (suc h) = row-length (rows l s x y v w h) ((y + h) * s + x) (v h) w ∙ rows-length l s x y v w h

  pub row_other : (l : List A) (at : ℕ) (v : ℕ → A) (n i : ℕ) (d : A) → ((k : ℕ) → k < n → i ≢ at + k) → get_or (row l at v n) i d ≡ get_or l i d
  unfolding row
  row_other l at v zero i d o = refl
  row_other l at v (suc n) i d o =
      get_or-set_other (row l at v n) (at + n) i (v n) d (o n (omega arith)) ∙ row_other l at v n i d (λ k h. o k (omega arith))

  pub row_same : (l : List A) (at : ℕ) (v : ℕ → A) (n k : ℕ) (d : A) → k < n → at + n ≤ length l → get_or (row l at v n) (at + k) d ≡ v k
  unfolding row
  row_same l at v zero k d h f = absurd (not-suc-le-zero h)
  row_same l at v (suc n) k d h f =
      ⊎_elim
      (λ e. rw e (get_or-set_same (row l at v n) (at + n) (v n) d (omega (arith, row-length l at v n))))
      (λ lt. get_or-set_other (row l at v n) (at + n) (at + k) (v n) d (omega arith) ∙ row_same l at v n k d lt (omega arith))
      (eq-or-lt_of_le (le_of_suc-le-suc h))

  -- a row stored at once, as by `copy_from_slice`
  pub row-paste : (l : List A) (at : ℕ) (v : ℕ → A) (s : List A) (d : A) (n : ℕ) → at + n ≤ length l → n ≤ length s → ((k : ℕ) → k < n → get_or s k d ≡ v k) → paste l at s n ≡ row l at v n
  unfolding row
  row-paste l at v s d zero f g e = sym (paste_none l at s)
  row-paste l at v s d (suc n) f g e =
      rw (← add-one n) (sym (paste_more l at s n d (omega arith) (omega arith)))
      ∙ (λ i. set (row-paste l at v s d n (omega arith) (omega arith) (λ k h. e k (omega arith)) i) (at + n) (e n (omega arith) i))

  -- a turn of a loop that stores a row
  pub row_more : {l : List A} (l₀ : List A) (at : ℕ) (v : ℕ → A) (n : ℕ) {x : A} → l ≡ row l₀ at v n → x ≡ v n → set l (at + n) x ≡ row l₀ at v (n + 1)
  unfolding row
  row_more l₀ at v n e f = rw (add-one n) (λ i. set (e i) (at + n) (f i))

  -- a turn of a loop over rows
  pub rows_more : {l l' : List A} (l₀ : List A) (s x y : ℕ) (v : ℕ → ℕ → A) (w r : ℕ) → l ≡ rows l₀ s x y v w r → l' ≡ row l ((y + r) * s + x) (v r) w → l' ≡ rows l₀ s x y v w (r + 1)
  unfolding rows
  rows_more l₀ s x y v w r e f = rw (add-one r) (f ∙ ap (λ (m : List A). row m ((y + r) * s + x) (v r) w) e)

  -- only the values that are stored count
  pub row-values : (l : List A) (at : ℕ) (v v' : ℕ → A) (n : ℕ) → ((k : ℕ) → k < n → v k ≡ v' k) → row l at v n ≡ row l at v' n
  unfolding row
  row-values l at v v' zero e = refl
  row-values l at v v' (suc n) e = λ i. set (row-values l at v v' n (λ k h. e k (omega arith)) i) (at + n) (e n (omega arith) i)

  pub rows_other : (l : List A) (s x y : ℕ) (v : ℕ → ℕ → A) (w h i : ℕ) (d : A) → ((r c : ℕ) → r < h → c < w → i ≢ (y + r) * s + x + c) → get_or (rows l s x y v w h) i d ≡ get_or l i d
  unfolding rows
  rows_other l s x y v w zero i d o = refl
  rows_other l s x y v w (suc h) i d o =
      row_other (rows l s x y v w h) ((y + h) * s + x) (v h) w i d (λ c. o h c (omega arith))
      ∙ rows_other l s x y v w h i d (λ r c lt. o r c (omega arith))

  rows_same : (l : List A) (s x y : ℕ) (v : ℕ → ℕ → A) (w h r c : ℕ) (d : A) → x + w ≤ s → (y + h) * s ≤ length l → r < h → c < w → get_or (rows l s x y v w h) ((y + r) * s + x + c) d ≡ v r c
  unfolding rows
  rows_same l s x y v w zero r c d a f lr lc = absurd (not-suc-le-zero lr)
  rows_same l s x y v w (suc h) r c d a f lr lc =
      let m : (y + h) * s + s ≤ (y + suc h) * s = more s (omega arith) in
      ⊎_elim
      (λ e. rw e (row_same (rows l s x y v w h) ((y + h) * s + x) (v h) w c d lc (omega (arith, rows-length l s x y v w h))))
      (λ lt.
      let m' : (y + r) * s + s ≤ (y + h) * s = more s (omega arith) in
      row_other (rows l s x y v w h) ((y + h) * s + x) (v h) w ((y + r) * s + x + c) d (λ k lk. omega arith)
      ∙ rows_same l s x y v w h r c d a (omega arith) lt lc)
      (eq-or-lt_of_le (le_of_suc-le-suc lr))

-- ---- each_at
module _ {A : Type 0} where
  each-length : (f : ℕ → A → A) (l : List A) → length (each_at f l) ≡ length l
  unfolding each_at
  each-length f [] = refl
  each-length f (v ∷ l) = ap suc (each-length (λ i. f (suc i)) l)

  pub each_at_lem : (f : ℕ → A → A) (l : List A) (i : ℕ) (d : A) → i < length l → get_or (each_at f l) i d ≡ f i (get_or l i d)
  unfolding each_at
  each_at_lem f [] i d h = absurd (not-suc-le-zero h)
  each_at_lem f (v ∷ l) zero d h = refl
  each_at_lem f (v ∷ l) (suc i) d h = each_at_lem (λ k. f (suc k)) l i d (le_of_suc-le-suc h)

  -- a list of the same length that is `f i v` at each place is `each_at f`
  pub each-is : (f : ℕ → A → A) (d : A) (l l' : List A) → length l' ≡ length l → ((i : ℕ) → i < length l → get_or l' i d ≡ f i (get_or l i d)) → l' ≡ each_at f l
  each-is f d l l' e h =
      ext_get_or d l' (each_at f l) (e ∙ sym (each-length f l)) (λ i lt. h i (rw e at lt) ∙ sym (each_at_lem f l i d (rw e at lt)))

-- ---- a test on a rectangle, both ways
pub both_true : (a b : Bool) → (a && b) ≡ true → (a ≡ true) × (b ≡ true)
both_true true b e = (refl, e)
both_true false b e = absurd (false≢true e)

pub within-true : (a n i : ℕ) → within a n i ≡ true → (a ≤ i) × (i < a + n)
unfolding within
within-true a n i e = let b = both_true (leb a i) (ltb i (a + n)) e in (leb-true a i b.0, ltb-true i (a + n) b.1)

pub within_in : (a n i : ℕ) → a ≤ i → i < a + n → within a n i ≡ true
unfolding within
within_in a n i p q = simp (le-leb a i p, lt-ltb i (a + n) q)

-- column x + c of row y + r lies inside
inside-in : (s x y w h r c : ℕ) → x + w ≤ s → r < h → c < w → inside s x y w h ((y + r) * s + x + c) ≡ true
unfolding inside
inside-in s x y w h r c a lr lc =
    simp (
      add_assoc,
      digits_mod (y + r) {m = s} {r = x + c} (omega arith),
      digits_div (y + r) {m = s} {r = x + c} (omega arith),
      within_in x w (x + c) (omega arith) (omega arith),
      within_in y h (y + r) (omega arith) (omega arith),
    )

-- a place inside, by its column and row
place : (s x y w h i : ℕ) → inside s x y w h i ≡ true → (i / s - y < h) × (i % s - x < w) × ((y + (i / s - y)) * s + x + (i % s - x) ≡ i)
unfolding inside
place s x y w h i e =
    let b = both_true (within x w (i % s)) (within y h (i / s)) e in
    let cx = within-true x w (i % s) b.0 in
    let cy = within-true y h (i / s) b.1 in
    let p : y + (i / s - y) ≡ i / s = omega arith in
    (omega arith, omega arith, rw p (omega (arith, div-add-mod' i s)))

-- ---- rows of stores paint
pub rows-painted : {A : Type 0} (d : A) (l : List A) (v : ℕ → ℕ → A) {s x y w h : ℕ} → Inside s x y w h (length l) → rows l s x y v w h ≡ painted s x y w h v l
unfolding painted
rows-painted {A} d l v {s} {x} {y} {w} {h} f = each-is _ d l (rows l s x y v w h) (rows-length l s x y v w h) (λ i lt. go i (inside s x y w h i) refl)
  where
    go : (i : ℕ) (t : Bool) → inside s x y w h i ≡ t → get_or (rows l s x y v w h) i d ≡ cond t (v (i / s - y) (i % s - x)) (get_or l i d)
    go i true e =
        let p = place s x y w h i e in
        sym (ap (λ (k : ℕ). get_or (rows l s x y v w h) k d) p.2) ∙ rows_same l s x y v w h (i / s - y) (i % s - x) d f.across f.down p.0 p.1
    go i false e = rows_other l s x y v w h i d (λ r c lr lc q. true≢false (sym (inside-in s x y w h r c f.across lr lc) ∙ ap (inside s x y w h) (sym q) ∙ e))

-- ---- what was painted is read back, and all else is as it was
module _ {A : Type 0} where
  pub painted-length : (s x y w h : ℕ) (v : ℕ → ℕ → A) (l : List A) → length (painted s x y w h v l) ≡ length l
  unfolding painted
  painted-length s x y w h v l = each-length _ l

  pub painted-other : (s x y w h : ℕ) (v : ℕ → ℕ → A) (l : List A) (i : ℕ) (d : A) → i < length l → inside s x y w h i ≡ false → get_or (painted s x y w h v l) i d ≡ get_or l i d
  unfolding painted
  painted-other s x y w h v l i d lt e = each_at_lem _ l i d lt ∙ rw e

  pub painted_same : {s x y w h : ℕ} (v : ℕ → ℕ → A) (l : List A) (r c : ℕ) (d : A) → Inside s x y w h (length l) → r < h → c < w → get_or (painted s x y w h v l) ((y + r) * s + x + c) d ≡ v r c
  painted_same {s} {x} {y} {w} {h} v l r c d f lr lc =
      ap (λ (m : List A). get_or m ((y + r) * s + x + c) d) (sym (rows-painted d l v f)) ∙ rows_same l s x y v w h r c d f.across f.down lr lc

  each-values : (f g : ℕ → A → A) (l : List A) → ((i : ℕ) (a : A) → f i a ≡ g i a) → each_at f l ≡ each_at g l
  unfolding each_at
  each-values f g [] e = refl
  each-values f g (a ∷ l) e = λ j. e 0 a j ∷ each-values (λ i. f (suc i)) (λ i. g (suc i)) l (λ i. e (suc i)) j

  -- only the values of the rectangle count
  pub painted-values : (s x y w h : ℕ) (v v' : ℕ → ℕ → A) (l : List A) → ((r c : ℕ) → r < h → c < w → v r c ≡ v' r c) → painted s x y w h v l ≡ painted s x y w h v' l
  unfolding painted
  painted-values s x y w h v v' l e = each-values _ _ l (λ i a. go i a (inside s x y w h i) refl)
    where
      go : (i : ℕ) (a : A) (t : Bool) → inside s x y w h i ≡ t → cond t (v (i / s - y) (i % s - x)) a ≡ cond t (v' (i / s - y) (i % s - x)) a
      go i a true q = let p = place s x y w h i q in e (i / s - y) (i % s - x) p.0 p.1
      go i a false q = refl

-- the definition at numbers, by computation: a block of 2 × 2 at column 1 of row 1, in rows of 4
worked : copied (0 ∷ 0 ∷ 0 ∷ 0 ∷ 0 ∷ 0 ∷ 0 ∷ 0 ∷ 0 ∷ 0 ∷ 0 ∷ 0 ∷ []) 4 1 1 2 2 (1 ∷ 2 ∷ 3 ∷ 4 ∷ 5 ∷ 6 ∷ 7 ∷ 8 ∷ 9 ∷ 10 ∷ 11 ∷ 12 ∷ []) ≡ 0 ∷ 0 ∷ 0 ∷ 0 ∷ 0 ∷ 6 ∷ 7 ∷ 0 ∷ 0 ∷ 10 ∷ 11 ∷ 0 ∷ []
unfolding copied painted each_at inside within seen
worked = refl

-- ---- a macroblock of n × n samples lies inside its plane
pub macroblock-inside : (n : ℕ) {cols rows column row : ℕ} → 0 < n → column < cols → row < rows → Inside (n * cols) (n * column) (n * row) n n (n * n * (cols * rows))
macroblock-inside n {cols} {rows} {column} {row} z a b =
    let across = mul-le-mul_left n a in
    let down : (n * row + n) * (n * cols) ≤ n * rows * (n * cols) = mul-le-mul_right (n * cols) (rw (← mul-suc n row) (mul-le-mul_left n b)) in
    let all : n * rows * (n * cols) ≡ n * n * (cols * rows) = rw (mul_assoc n rows (n * cols), mul_left_comm rows n cols, mul_comm rows cols, mul_assoc n n (cols * rows)) in
    record { some = mul-pos z (omega arith); across = rw (mul-suc n column) at across; down = rw all at down }

pub plane-inside : (n : ℕ) {cols rows column row size : ℕ} → 0 < n → Within cols rows column row → size ≡ n * n * (cols * rows) → Inside (n * cols) (n * column) (n * row) n n size
plane-inside n z g e = rw e (macroblock-inside n z g.across g.down)
