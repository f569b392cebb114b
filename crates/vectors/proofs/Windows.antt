-- Laws of the window: what a loaded cell shows, what the neighbours of a partition are in it, and that storing in it is storing in the field.
-- Assumes nothing.
use mathlib.Core.Path.{◌≡◌, refl, sym, ap, ap₂, subst, ◌∙◌}
use mathlib.Core.Bool.{Bool, true, false, cond, ◌||◌, ◌&&◌, true≢false}
use mathlib.Core.Logic.{◌≢◌, ◌⊎◌, inl, inr, ⊎_elim}
use mathlib.Core.List.{List}
use Prim.Native.Nat.{ℕ, zero, suc, ◌+◌, ◌-◌, ◌*◌, ◌/◌, ◌%◌, ◌≤◌, ◌<◌}
use native.Mathlib.Nat.{suc-mul, add_assoc, add_comm, div-add-mod', add-mod_right}
use lib.Arith.{digits_mod}
use native.Mathlib.Numerals.{sub-one, one-add}
use native.Mathlib.Omega.{arith}
use borrow.Author.Tests.{ne_eqb, eqb-true, eqb-false, ltb-true, ltb-false, lt-ltb, le-ltb}
use lib.Dec.{eqb, ltb}
use lib.IntN.{ℤ, pos}
use lib.ListN.{set, length-set}
use lib.Seq.{get_or-set_same, get_or-set_other}
use Rattle.ints.specs.Z.{when◌then◌else◌}
use Rattle.ints.proofs.Fits.{if_yes, if_no}
use Rattle.picture.specs.Painted.{within}
use Rattle.picture.specs.InnerPicture.{Within}
use Rattle.picture.proofs.Laws.{within-true, within_in}
use Rattle.picture.specs.Field.{Field}
use Rattle.picture.specs.InnerField.{lent_field}
use Rattle.vectors.specs.Predict.{vector, cell_at, near_at, left_of, above_of, above_left_of, or_else, combined, predicted}
use Rattle.vectors.specs.Stored.{stored_field}
use Rattle.vectors.proofs.Tests.{neither, same_test}
use Rattle.vectors.proofs.Storing.{FieldSized, near-stored}
use Rattle.vectors.specs.InnerWindow.{End, Sight, Seen, Part, shown, shown_at, corners, first, last, on_left, on_right, above, corner}
use Rattle.std.specs.Prelude.{Some, None}
use Rattle.vectors.specs.declared.svq3_frame.Vector.{Vector}
use Rattle.vectors.specs.declared.window.Neighbours.{Neighbours}

-- ---- off the picture, as the code tests it
abbrev pub off : ℕ → ℕ → ℕ → Bool
off cols x y = (eqb x 0 || eqb y 0) || ltb (4 * cols) x

pub on : (cols x y : ℕ) → off cols x y ≡ false → (1 ≤ x) × (1 ≤ y) × (x ≤ 4 * cols)
on cols x y e =
    let a = neither (eqb x 0 || eqb y 0) (ltb (4 * cols) x) e in
    let b = neither (eqb x 0) (eqb y 0) a.0 in
    let l : x ≤ 4 * cols = ltb-false (4 * cols) x a.1 in
    (one x b.0, one y b.1, l)
  where
    one : (n : ℕ) → eqb n 0 ≡ false → 1 ≤ n
    one zero t = absurd (eqb-false 0 0 t refl)
    one (suc n) t = omega arith

-- a place on the picture lies in the list
pub on-place : (x y s n : ℕ) → 1 ≤ x → 1 ≤ y → x ≤ s → y * s ≤ n → (y - 1) * s + (x - 1) < n
on-place x zero s n a b c d = absurd (omega arith)
on-place x (suc y) s n a b c d = rw (sub-one (suc y)) (omega (arith, suc-mul y s))

module _ (cols rows : ℕ) (mv : List ℤ) (marks : List ℕ) where
  pub off-missing : (x y : ℕ) → off cols x y ≡ true → above_left_of (lent_field cols rows mv marks) x y ≡ None
  unfolding above_left_of left_of near_at
  off-missing x zero e = refl
  off-missing zero (suc y) e = refl
  off-missing (suc x) (suc y) e =
      let t : ltb (4 * cols) (suc x) ≡ true = rw (ne_eqb (suc x) 0 (omega arith), ne_eqb (suc y) 0 (omega arith)) at e in
      if_no _ _ _ (rw (le-ltb x (4 * cols) (omega (arith, ltb-true (4 * cols) (suc x) t))) refl)

  pub on-shows : (x y : ℕ) → 1 ≤ x → 1 ≤ y → x ≤ 4 * cols → y ≤ 4 * rows → above_left_of (lent_field cols rows mv marks) x y ≡ cell_at mv marks ((y - 1) * (4 * cols) + (x - 1))
  unfolding above_left_of left_of near_at
  on-shows x zero a b c d = absurd (omega arith)
  on-shows zero (suc y) a b c d = absurd (omega arith)
  on-shows (suc x) (suc y) a b c d = rw (sub-one (suc x), sub-one (suc y)) (if_yes _ _ _ (rw (lt-ltb x (4 * cols) c, lt-ltb y (4 * rows) d) refl))

  -- a row whose six cells all lie on it
  pub whole-shows : (column y c : ℕ) → 0 < column → 0 < y → column + 1 < cols → y ≤ 4 * rows → c < 6
      → cell_at mv marks ((y - 1) * (4 * cols) + (4 * column - 1) + c) ≡ above_left_of (lent_field cols rows mv marks) (4 * column + c) y
  whole-shows column y c a b l h lc =
      let i : (y - 1) * (4 * cols) + (4 * column - 1) + c ≡ (y - 1) * (4 * cols) + (4 * column + c - 1) = omega arith in
      ap (cell_at mv marks) i ∙ sym (on-shows (4 * column + c) y (omega arith) b (omega arith) h)

-- ---- cell k written
abbrev zero-vector : Vector
zero-vector = vector (pos 0) (pos 0)

module _ (n n' : Neighbours) (k m : ℕ) (v : Vector) (e : n'.vectors ≡ set n.vectors k v) (f : n'.marks ≡ set n.marks k m) where
  pub set_shows : k < 30 → shown_at n' k ≡ shown m v
  unfolding shown_at
  set_shows h = rw (f, e, get_or-set_same n.marks k m 0 (omega (arith, n.marks_len)), get_or-set_same n.vectors k v zero-vector (omega (arith, n.vectors_len)))

  pub set-other : (j : ℕ) → j ≢ k → shown_at n' j ≡ shown_at n j
  unfolding shown_at
  set-other j o = rw (f, e, get_or-set_other n.marks k j m 0 o, get_or-set_other n.vectors k j v zero-vector o)

-- and its mark alone
module _ (n n' : Neighbours) (k : ℕ) (e : n'.vectors ≡ n.vectors) (f : n'.marks ≡ set n.marks k 0) where
  pub none_shown : k < 30 → shown_at n' k ≡ None
  unfolding shown_at when◌then◌else◌
  none_shown h = rw (f, get_or-set_same n.marks k 0 0 (omega (arith, n.marks_len)))

  pub none-other : (j : ℕ) → j ≢ k → shown_at n' j ≡ shown_at n j
  unfolding shown_at
  none-other j o = rw (f, e, get_or-set_other n.marks k j 0 0 o)

-- ---- the neighbours of a partition whose first cell is (cx, cy) of its macroblock: D is cell cy · 6 + cx of the window, A a row below it, B and C to its right
left_is : (f : Field) (x y : ℕ) → above_left_of f x (suc y) ≡ left_of f x y
unfolding above_left_of
left_is f x y = refl

above-is : (f : Field) (x y : ℕ) → above_left_of f (suc x) y ≡ above_of f x y
unfolding above_left_of above_of left_of
above-is f x zero = refl
above-is f x (suc y) = refl

-- what lies before a span ends one, and what lies behind it starts one
before-end : (n k : ℕ) → 0 < n → 0 < k → k % n ≡ 0 → End n (k - 1)
before-end n k z h e =
    let q : k ≡ k / n * n = sym (div-add-mod' k n) ∙ omega (arith, e) in
    let some : 0 < k / n = go (k / n) q in
    let p : k - 1 ≡ (k / n - 1) * n + (n - 1) = less (k / n) some q in
    last (ap (λ (i : ℕ). suc (i % n)) p ∙ ap suc (digits_mod (k / n - 1) {m = n} {r = n - 1} (omega arith)) ∙ omega arith)
  where
    go : (m : ℕ) → k ≡ m * n → 0 < m
    go zero f = absurd (omega (arith, f))
    go (suc m) f = omega arith

    less : (m : ℕ) → 0 < m → k ≡ m * n → k - 1 ≡ (m - 1) * n + (n - 1)
    less zero l f = absurd (omega arith)
    less (suc m) l f = let g : suc m - 1 ≡ m = omega arith in rw g (omega (arith, f, suc-mul m n))

next-end : (n k : ℕ) → k % n ≡ 0 → End n (k + n)
next-end n k e = first (add-mod_right k n ∙ e)

module _ {f : Field} {column row cx cy wide high : ℕ} {n : Neighbours} (p : Part cx cy wide high) (s : Seen wide high f column row n) where
  -- each neighbour is in sight
  left-sight : Sight wide high cx (cy + 1)
  left-sight = go cx refl
    where
      go : (x : ℕ) → cx ≡ x → Sight wide high x (cy + 1)
      go zero e = on_left refl
      go (suc x) e = let m : cy + 1 - 1 ≡ cy = omega arith in corner (before-end wide (suc x) p.wide_some (omega arith) (rw e at p.left)) (first (ap (λ (k : ℕ). k % high) m ∙ p.top))

  above-sight : (c : ℕ) → End wide (c - 1) → Sight wide high c cy
  above-sight c e = go cy refl
    where
      go : (y : ℕ) → cy ≡ y → Sight wide high c y
      go zero f = above refl
      go (suc y) f = corner e (before-end high (suc y) p.high_some (omega arith) (rw f at p.top))

  first-sight : Sight wide high (cx + 1) cy
  first-sight = let m : cx + 1 - 1 ≡ cx = omega arith in above-sight (cx + 1) (first (ap (λ (k : ℕ). k % wide) m ∙ p.left))

  third-sight : Sight wide high (cx + wide + 1) cy
  third-sight = let m : cx + wide + 1 - 1 ≡ cx + wide = omega arith in above-sight (cx + wide + 1) (subst (End wide) (sym m) (next-end wide cx p.left))

  fourth-sight : Sight wide high cx cy
  fourth-sight = go cx refl
    where
      go : (x : ℕ) → cx ≡ x → Sight wide high x cy
      go zero e = on_left refl
      go (suc x) e = above-sight (suc x) (before-end wide (suc x) p.wide_some (omega arith) (rw e at p.left))

  seen-above : (c : ℕ) → c < 5 → Sight wide high (c + 1) cy → shown_at n (cy * 6 + c + 1) ≡ above_of f (4 * column + c) (4 * row + cy)
  seen-above c lc t =
      let i : cy * 6 + c + 1 ≡ cy * 6 + (c + 1) = omega arith in
      let x : 4 * column + (c + 1) ≡ suc (4 * column + c) = omega arith in
      ap (shown_at n) i ∙ s.shows (c + 1) cy (omega arith) (omega (arith, p.down)) t ∙ ap (λ k. above_left_of f k (4 * row + cy)) x ∙ above-is f (4 * column + c) (4 * row + cy)

  -- THE PREDICTION from the window is that of the field
  pub seen-predicted : combined (shown_at n (cy * 6 + cx + 6)) (shown_at n (cy * 6 + cx + 1)) (or_else (shown_at n (cy * 6 + cx + 1 + wide)) (shown_at n (cy * 6 + cx)))
      ≡ predicted f (4 * column + cx) (4 * row + cy) wide
  unfolding predicted
  seen-predicted =
      let j : cy * 6 + cx + 6 ≡ (cy + 1) * 6 + cx = omega arith in
      let y : 4 * row + (cy + 1) ≡ suc (4 * row + cy) = omega arith in
      let a = ap (shown_at n) j ∙ s.shows cx (cy + 1) (omega (arith, p.across)) (omega (arith, p.down, p.high_some)) left-sight ∙ ap (above_left_of f (4 * column + cx)) y ∙ left_is f (4 * column + cx) (4 * row + cy) in
      let b = seen-above cx (omega (arith, p.across)) first-sight in
      let i : cy * 6 + cx + 1 + wide ≡ cy * 6 + (cx + wide) + 1 = omega arith in
      let x : 4 * column + (cx + wide) ≡ 4 * column + cx + wide = omega arith in
      let c = ap (shown_at n) i ∙ seen-above (cx + wide) (omega (arith, p.across)) third-sight ∙ ap (λ k. above_of f k (4 * row + cy)) x in
      let d = s.shows cx cy (omega (arith, p.across)) (omega (arith, p.down)) fourth-sight in
      λ i. combined (a i) (b i) (or_else (c i) (d i))

-- ---- storing in the window is storing in the field
within-shift : (k a n i : ℕ) → within (k + a) n (k + i) ≡ within a n i
within-shift k a n i =
    same_test
    (within (k + a) n (k + i))
    (within a n i)
    (λ t. let b = within-true (k + a) n (k + i) t in within_in a n i (omega arith) (omega arith))
    (λ t. let b = within-true a n i t in within_in (k + a) n (k + i) (omega arith) (omega arith))

within_more : (a n i : ℕ) → within (a + 1) n (suc i) ≡ within a n i
within_more a n i = ap₂ (λ b j. within b n j) (add_comm a 1) (sym (one-add i)) ∙ within-shift 1 a n i

within_none : (a n : ℕ) → within (a + 1) n 0 ≡ false
within_none a n = same_test (within (a + 1) n 0) false (λ t. absurd (omega (arith, within-true (a + 1) n 0 t))) (λ t. absurd (true≢false (sym t)))

and_none : (b : Bool) → (b && false) ≡ false
and_none true = refl
and_none false = refl

-- the cell above and to the left of any place, after a partition that lies in the grid was stored
module _ (f : Field) (x y w h : ℕ) (vx vy : ℤ) (s : FieldSized f) (lx : x + w ≤ 4 * f.cols) (ly : y + h ≤ 4 * f.rows) where
  corner-stored : (c r : ℕ) → above_left_of (stored_field f x y w h vx vy) c r ≡ cond (within (x + 1) w c && within (y + 1) h r) (Some (vector vx vy)) (above_left_of f c r)
  unfolding above_left_of left_of
  corner-stored c zero = rw (within_none y h, and_none (within (x + 1) w c))
  corner-stored zero (suc r) = rw (within_none x w)
  corner-stored (suc c) (suc r) = rw (within_more x w c, within_more y h r) (near-stored f x y w h vx vy s lx ly c r)

-- ---- the corners of a partition made a vector, marked 1, one after another
abbrev made : Neighbours → ℕ → Vector → Neighbours
made n k v = record {
  vectors = set n.vectors k v;
  marks = set n.marks k 1;
  vectors_len = length-set n.vectors k v ∙ n.vectors_len;
  marks_len = length-set n.marks k 1 ∙ n.marks_len;
}

module _ (v : Vector) (n n' : Neighbours) (k : ℕ) (h : k < 30) (e : n'.vectors ≡ set n.vectors k v) (f : n'.marks ≡ set n.marks k 1) where
  made-here : shown_at n' k ≡ Some v
  unfolding when◌then◌else◌
  made-here = set_shows n n' k 1 v e f h

  -- a cell that shows it goes on showing it
  kept : (i : ℕ) → shown_at n i ≡ Some v → shown_at n' i ≡ Some v
  kept i s = ⊎_elim
      (λ (q : i ≡ k). rw q made-here)
      (λ (o : i ≢ k). set-other n n' k 1 v e f i o ∙ s)
      (elim (eqb i k) as (λ t. eqb i k ≡ t → (i ≡ k) ⊎ (i ≢ k)) [ true ↦ λ t. inl (eqb-true i k t) | false ↦ λ t. inr (eqb-false i k t) ] refl)

module _ (n n' : Neighbours) (v : Vector) (k across down : ℕ) (e : n'.vectors ≡ corners n.vectors k across down v) (f : n'.marks ≡ corners n.marks k across down 1) (h : k + across + down < 30) where
  abbrev n₁ : Neighbours
  n₁ = made n k v

  abbrev n₂ : Neighbours
  n₂ = made n₁ (k + across) v

  abbrev n₃ : Neighbours
  n₃ = made n₂ (k + down) v

  corners-other : (i : ℕ) → i ≢ k → i ≢ k + across → i ≢ k + down → i ≢ k + across + down → shown_at n' i ≡ shown_at n i
  corners-other i a b c d =
      set-other n₃ n' (k + across + down) 1 v e f i d
      ∙ set-other n₂ n₃ (k + down) 1 v refl refl i c
      ∙ set-other n₁ n₂ (k + across) 1 v refl refl i b
      ∙ set-other n n₁ k 1 v refl refl i a

  corners-here : (i : ℕ) → (i ≡ k) ⊎ ((i ≡ k + across) ⊎ ((i ≡ k + down) ⊎ (i ≡ k + across + down))) → shown_at n' i ≡ Some v
  corners-here i q = go q
    where
      second : (i : ℕ) → shown_at n₁ i ≡ Some v → shown_at n₂ i ≡ Some v
      second = kept v n₁ n₂ (k + across) (omega arith) refl refl

      third : (i : ℕ) → shown_at n₂ i ≡ Some v → shown_at n₃ i ≡ Some v
      third = kept v n₂ n₃ (k + down) (omega arith) refl refl

      fourth : (i : ℕ) → shown_at n₃ i ≡ Some v → shown_at n' i ≡ Some v
      fourth = kept v n₃ n' (k + across + down) h e f

      go : (i ≡ k) ⊎ ((i ≡ k + across) ⊎ ((i ≡ k + down) ⊎ (i ≡ k + across + down))) → shown_at n' i ≡ Some v
      go (inl q) = fourth i (third i (second i (rw q (made-here v n n₁ k (omega arith) refl refl))))
      go (inr (inl q)) = fourth i (third i (rw q (made-here v n₁ n₂ (k + across) (omega arith) refl refl)))
      go (inr (inr (inl q))) = fourth i (rw q (made-here v n₂ n₃ (k + down) (omega arith) refl refl))
      go (inr (inr (inr q))) = rw q (made-here v n₃ n' (k + across + down) h e f)

-- ---- a cell in sight that lies in a partition is a corner of it
end_of : (n x k : ℕ) → x % n ≡ 0 → x ≤ k → k < x + n → End n k → (k ≡ x) ⊎ (suc k ≡ x + n)
end_of n x k e l h t = go t
  where
    place : k ≡ x / n * n + (k - x)
    place = omega (arith, div-add-mod' x n, e)

    left : k % n ≡ k - x
    left = ap (λ (i : ℕ). i % n) place ∙ digits_mod (x / n) {m = n} {r = k - x} (omega arith)

    go : End n k → (k ≡ x) ⊎ (suc k ≡ x + n)
    go (first f) = inl (omega (arith, left, f))
    go (last f) = inr (omega (arith, left, f))

module _ {cx cy wide high : ℕ} (p : Part cx cy wide high) (c r : ℕ) (lc : c < 6) where
  abbrev start : ℕ
  start = (cy + 1) * 6 + (cx + 1)

  spot : within (cx + 1) wide c ≡ true → within (cy + 1) high r ≡ true → Sight wide high c r
      → (r * 6 + c ≡ start) ⊎ ((r * 6 + c ≡ start + (wide - 1)) ⊎ ((r * 6 + c ≡ start + 6 * (high - 1)) ⊎ (r * 6 + c ≡ start + (wide - 1) + 6 * (high - 1))))
  spot tx ty t = go t
    where
      bx : (cx + 1 ≤ c) × (c < cx + 1 + wide)
      bx = within-true (cx + 1) wide c tx

      by' : (cy + 1 ≤ r) × (r < cy + 1 + high)
      by' = within-true (cy + 1) high r ty

      at : (c - 1 ≡ cx) ⊎ (suc (c - 1) ≡ cx + wide) → (r - 1 ≡ cy) ⊎ (suc (r - 1) ≡ cy + high)
          → (r * 6 + c ≡ start) ⊎ ((r * 6 + c ≡ start + (wide - 1)) ⊎ ((r * 6 + c ≡ start + 6 * (high - 1)) ⊎ (r * 6 + c ≡ start + (wide - 1) + 6 * (high - 1))))
      at (inl x) (inl y) = inl (omega (arith, bx, by'))
      at (inr x) (inl y) = inr (inl (omega (arith, bx, by', p.wide_some)))
      at (inl x) (inr y) = inr (inr (inl (omega (arith, bx, by', p.high_some))))
      at (inr x) (inr y) = inr (inr (inr (omega (arith, bx, by', p.wide_some, p.high_some))))

      go : Sight wide high c r → (r * 6 + c ≡ start) ⊎ ((r * 6 + c ≡ start + (wide - 1)) ⊎ ((r * 6 + c ≡ start + 6 * (high - 1)) ⊎ (r * 6 + c ≡ start + (wide - 1) + 6 * (high - 1))))
      go (on_left e) = absurd (omega (arith, bx))
      go (on_right e) = absurd (omega (arith, bx, p.across))
      go (above e) = absurd (omega (arith, by'))
      go (corner ex ey) = at (end_of wide cx (c - 1) p.left (omega (arith, bx)) (omega (arith, bx)) ex) (end_of high cy (r - 1) p.top (omega (arith, by')) (omega (arith, by')) ey)

  -- and one outside it is none
  elsewhere : (within (cx + 1) wide c ≡ true → within (cy + 1) high r ≡ true → ⊥) → (dx dy : ℕ) → dx < wide → dy < high → r * 6 + c ≢ start + dx + 6 * dy
  elsewhere o dx dy lx ly q =
      let x : c ≡ cx + 1 + dx = omega (arith, p.across) in
      let y : r ≡ cy + 1 + dy = omega (arith, p.across) in
      o (within_in (cx + 1) wide c (omega arith) (omega arith)) (within_in (cy + 1) high r (omega arith) (omega arith))

-- THE WINDOW after a partition was stored in it shows the field after the partition was stored there
pub seen_stored : {f : Field} {column row cx cy wide high : ℕ} {n n' : Neighbours} (v : Vector) → FieldSized f → Within f.cols f.rows column row → Part cx cy wide high → Seen wide high f column row n
    → n'.vectors ≡ corners n.vectors ((cy + 1) * 6 + (cx + 1)) (wide - 1) (6 * (high - 1)) v → n'.marks ≡ corners n.marks ((cy + 1) * 6 + (cx + 1)) (wide - 1) (6 * (high - 1)) 1
    → Seen wide high (stored_field f (4 * column + cx) (4 * row + cy) wide high v.x.0 v.y.0) column row n'
seen_stored {f} {column} {row} {cx} {cy} {wide} {high} {n} {n'} v s g p e d₁ d₂ = record { shows = λ c r lc lr t. near c r lc lr t (within (cx + 1) wide c) refl (within (cy + 1) high r) refl ∙ sym (far c r) }
  where
    k : ℕ
    k = (cy + 1) * 6 + (cx + 1)

    fits : k + (wide - 1) + 6 * (high - 1) < 30
    fits = omega (arith, p.across, p.down, p.wide_some, p.high_some)

    far : (c r : ℕ) → above_left_of (stored_field f (4 * column + cx) (4 * row + cy) wide high v.x.0 v.y.0) (4 * column + c) (4 * row + r) ≡ cond (within (cx + 1) wide c && within (cy + 1) high r) (Some v) (above_left_of f (4 * column + c) (4 * row + r))
    far c r =
        let bx = ap (λ n. within n wide (4 * column + c)) (add_assoc (4 * column) cx 1) ∙ within-shift (4 * column) (cx + 1) wide c in
        let by' = ap (λ n. within n high (4 * row + r)) (add_assoc (4 * row) cy 1) ∙ within-shift (4 * row) (cy + 1) high r in
        corner-stored f (4 * column + cx) (4 * row + cy) wide high v.x.0 v.y.0 s (omega (arith, g.across, p.across)) (omega (arith, g.down, p.down)) (4 * column + c) (4 * row + r)
        ∙ λ i. cond (bx i && by' i) (Some v) (above_left_of f (4 * column + c) (4 * row + r))

    -- outside the partition
    same : (c r : ℕ) → c < 6 → r < 5 → Sight wide high c r → (within (cx + 1) wide c ≡ true → within (cy + 1) high r ≡ true → ⊥) → shown_at n' (r * 6 + c) ≡ above_left_of f (4 * column + c) (4 * row + r)
    same c r lc lr t o =
        let no : (dx dy : ℕ) → dx < wide → dy < high → r * 6 + c ≢ k + dx + 6 * dy = elsewhere p c r lc o in
        let w = p.wide_some in
        let h = p.high_some in
        corners-other n n' v k (wide - 1) (6 * (high - 1)) d₁ d₂ fits (r * 6 + c) (λ q. no 0 0 (omega arith) (omega arith) (omega (arith, q))) (λ q. no (wide - 1) 0 (omega arith) (omega arith) (omega (arith, q))) (λ q. no 0 (high - 1) (omega arith) (omega arith) (omega (arith, q))) (λ q. no (wide - 1) (high - 1) (omega arith) (omega arith) (omega (arith, q)))
        ∙ e.shows c r lc lr t

    near : (c r : ℕ) → c < 6 → r < 5 → Sight wide high c r → (u : Bool) → within (cx + 1) wide c ≡ u → (b : Bool) → within (cy + 1) high r ≡ b
        → shown_at n' (r * 6 + c) ≡ cond (within (cx + 1) wide c && within (cy + 1) high r) (Some v) (above_left_of f (4 * column + c) (4 * row + r))
    near c r lc lr t true tx true ty = rw (tx, ty) (corners-here n n' v k (wide - 1) (6 * (high - 1)) d₁ d₂ fits (r * 6 + c) (spot p c r lc tx ty t))
    near c r lc lr t true tx false ty = rw (tx, ty) (same c r lc lr t (λ a b. true≢false (sym b ∙ ty)))
    near c r lc lr t false tx b ty = rw tx (same c r lc lr t (λ a b. true≢false (sym a ∙ tx)))
