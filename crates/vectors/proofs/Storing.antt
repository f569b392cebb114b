-- Laws of storing a partition: the numbers of a cell, what a cell shows afterwards, lengths.
-- Assumes nothing.
use mathlib.Core.Path.{◌≡◌, refl, sym, ap, ◌∙◌}
use mathlib.Core.Bool.{Bool, true, false, cond, ◌&&◌, true≢false}
use mathlib.Core.List.{List}
use Prim.Native.Nat.{ℕ, ◌+◌, ◌-◌, ◌*◌, ◌/◌, ◌%◌, ◌≤◌, ◌<◌}
use native.Mathlib.Nat.{add-zero}
use native.Mathlib.Omega.{arith}
use lib.Arith.{digits_div, digits_mod}
use borrow.Author.Tests.{ltb-true, ltb-false, lt-ltb}
use lib.Dec.{eqb, ltb}
use lib.IntN.{ℤ, pos}
use lib.ListN.{length, get_or, drop, replicate, length-take, length-drop, length-replicate, get_or-replicate}
use lib.Seq.{ext_get_or}
use borrow.Rule.Slice.PartMut.{mid_of, put_mid, same_len_mid}
use lib.LanesLaws.{put_is}
use Rattle.std.specs.Simd.Lanes.{put_chunk}
use Rattle.std.proofs.lemmas.Simd.{get_or-put_chunk_below, get_or-put_chunk_at, get_or-put_chunk_above}
use Rattle.ints.specs.Z.{when◌then◌else◌}
use Rattle.picture.specs.InnerRows.{row, rows}
use Rattle.picture.specs.Painted.{within, inside, painted, Inside}
use Rattle.picture.specs.Picture.{cell_count, always, filled}
use Rattle.picture.proofs.Laws.{more, row-length, row_same, row_other, rows_more, each_at_lem, painted-length, within-true, within_in}
use Rattle.vectors.proofs.Tests.{and_left, and_right, same_test}
use Rattle.picture.specs.Field.{Field}
use Rattle.vectors.specs.Predict.{vector, cell_at, near_at}
pub use Rattle.vectors.specs.InnerWindow.{FieldSized}
use Rattle.vectors.specs.InnerWindow.{shown}
use Rattle.vectors.specs.Stored.{pair_of, stored_vectors, stored_marks, stored_field}
use Rattle.std.specs.Prelude.{Option, Some, None}
use Rattle.vectors.specs.declared.svq3_frame.Vector.{Vector}

-- ---- a part that is filled is a row of stores
pub filled-row : {A : Type 0} (d : A) (l : List A) (a n : ℕ) (v : A) {k : ℕ} {ys : List A} → k ≡ n → ys ≡ replicate (length (mid_of a k l)) v → a + n ≤ length l → put_mid a k l ys ≡ row l a (λ i. v) n
filled-row d l a n v {k} {ys} e f h = ext_get_or d (put_mid a k l ys) (row l a (λ i. v) n)
    (same_len_mid a k l ys (size ∙ sym part) ∙ sym (row-length l a (λ i. v) n))
    (λ i lt. ap (λ zs. get_or zs i d) chunk ∙ go i (ltb i a) refl (ltb i (a + n)) refl)
  where
    part : length (mid_of a k l) ≡ n
    part = omega (arith, e, length-take k (drop a l), length-drop a l)

    size : length ys ≡ n
    size = ap length f ∙ length-replicate (length (mid_of a k l)) v ∙ part

    chunk : put_mid a k l ys ≡ put_chunk a l ys
    chunk = ap (λ m. put_mid a m l ys) (e ∙ sym size) ∙ sym (put_is a l ys (omega (arith, size)))

    go : (i : ℕ) (s : Bool) → ltb i a ≡ s → (t : Bool) → ltb i (a + n) ≡ t → get_or (put_chunk a l ys) i d ≡ get_or (row l a (λ j. v) n) i d
    go i true p t q = let b = ltb-true i a p in get_or-put_chunk_below a l ys i d b ∙ sym (row_other l a (λ j. v) n i d (λ j lt. omega arith))
    go i false p true q =
        let b = ltb-false i a p in
        let c = ltb-true i (a + n) q in
        let g : i ≡ a + (i - a) = omega arith in
        ap (λ j. get_or (put_chunk a l ys) j d) g
        ∙ get_or-put_chunk_at a l ys (i - a) d (omega (arith, size)) (omega (arith, size))
        ∙ ap (λ zs. get_or zs (i - a) d) f ∙ get_or-replicate (length (mid_of a k l)) (i - a) v d (omega (arith, part))
        ∙ sym (ap (λ j. get_or (row l a (λ j. v) n) j d) g ∙ row_same l a (λ j. v) n (i - a) d (omega arith) h)
    go i false p false q = let c = ltb-false i (a + n) q in get_or-put_chunk_above a l ys i d (omega (arith, size)) ∙ sym (row_other l a (λ j. v) n i d (λ j lt. omega arith))

-- ---- a pair of numbers for each cell
pub pair_same : (v : ℤ) (r c : ℕ) → v ≡ pair_of v v r c
unfolding pair_of when◌then◌else◌
pair_same v r c = go (eqb (c % 2) 0)
  where
    go : (t : Bool) → v ≡ (when t then v else v)
    go true = refl
    go false = refl

-- a turn of the loop over rows: row r begins at twice its first cell
pub pairs-more : {l l' : List ℤ} (l₀ : List ℤ) (s x y : ℕ) (vx vy : ℤ) (w r : ℕ) → l ≡ rows l₀ (2 * s) (2 * x) y (pair_of vx vy) (2 * w) r → l' ≡ row l (2 * ((y + r) * s + x)) (pair_of vx vy 0) (2 * w)
    → l' ≡ rows l₀ (2 * s) (2 * x) y (pair_of vx vy) (2 * w) (r + 1)
unfolding pair_of
pairs-more {l} l₀ s x y vx vy w r e f =
    let p : 2 * ((y + r) * s + x) ≡ (y + r) * (2 * s) + 2 * x = omega arith in
    rows_more l₀ (2 * s) (2 * x) y (pair_of vx vy) (2 * w) r e (f ∙ ap (λ k. row l k (pair_of vx vy 0) (2 * w)) p)

-- the numbers of cells that lie inside lie inside
pub pairs-inside : {s x y w h n m : ℕ} → m ≡ 2 * n → Inside s x y w h n → Inside (2 * s) (2 * x) y (2 * w) h m
pairs-inside {s} {x} {y} {w} {h} e i = record { some = omega arith; across = omega arith; down = omega arith }

-- ---- lengths are kept
vectors-length : (mv : List ℤ) (s x y w h : ℕ) (vx vy : ℤ) → length (stored_vectors mv s x y w h vx vy) ≡ length mv
unfolding stored_vectors
vectors-length mv s x y w h vx vy = painted-length (2 * s) (2 * x) y (2 * w) h (pair_of vx vy) mv

marks-length : (marks : List ℕ) (s x y w h : ℕ) → length (stored_marks marks s x y w h) ≡ length marks
unfolding stored_marks filled
marks-length marks s x y w h = painted-length s x y w h (always 1) marks

-- ---- what a cell shows afterwards
painted-at : {A : Type 0} (s x y w h : ℕ) (v : ℕ → ℕ → A) (l : List A) (i : ℕ) (d : A) → i < length l → get_or (painted s x y w h v l) i d ≡ cond (inside s x y w h i) (v (i / s - y) (i % s - x)) (get_or l i d)
unfolding painted
painted-at s x y w h v l i d lt = each_at_lem _ l i d lt

-- column c of row r, in rows of s cells: number e of its two stands in column 2 · c + e of 2 · s
module _ (s x y w h r c : ℕ) (lc : c < s) where
  -- the cell belongs to the partition
  abbrev belongs : Bool
  belongs = within x w c && within y h r

  cell-inside : inside s x y w h (r * s + c) ≡ belongs
  unfolding inside
  cell-inside = rw (digits_mod r {m = s} {r = c} lc, digits_div r {m = s} {r = c} lc)

  module _ (e : ℕ) (le : e < 2) where
    number-place : 2 * (r * s + c) + e ≡ r * (2 * s) + (2 * c + e)
    number-place = omega arith

    number-column : (2 * (r * s + c) + e) % (2 * s) ≡ 2 * c + e
    number-column = rw number-place (digits_mod r {m = 2 * s} {r = 2 * c + e} (omega arith))

    number-row : (2 * (r * s + c) + e) / (2 * s) ≡ r
    number-row = rw number-place (digits_div r {m = 2 * s} {r = 2 * c + e} (omega arith))

    number-within : within (2 * x) (2 * w) (2 * c + e) ≡ within x w c
    number-within =
        same_test
        (within (2 * x) (2 * w) (2 * c + e))
        (within x w c)
        (λ t. let b = within-true (2 * x) (2 * w) (2 * c + e) t in within_in x w c (omega arith) (omega arith))
        (λ t. let b = within-true x w c t in within_in (2 * x) (2 * w) (2 * c + e) (omega arith) (omega arith))

    number-inside : inside (2 * s) (2 * x) y (2 * w) h (2 * (r * s + c) + e) ≡ belongs
    unfolding inside
    number-inside = rw (number-column, number-row, number-within)

    -- number e of the cell afterwards
    number_at : (vx vy : ℤ) (mv : List ℤ) → 2 * (r * s + c) + e < length mv
        → get_or (stored_vectors mv s x y w h vx vy) (2 * (r * s + c) + e) (pos 0) ≡ cond belongs (pair_of vx vy 0 e) (get_or mv (2 * (r * s + c) + e) (pos 0))
    unfolding stored_vectors pair_of
    number_at vx vy mv lt =
        painted-at (2 * s) (2 * x) y (2 * w) h (pair_of vx vy) mv (2 * (r * s + c) + e) (pos 0) lt ∙ rw (number-inside, number-column) (go belongs refl)
      where
        go : (t : Bool) → belongs ≡ t → cond t (pair_of vx vy (r - y) (2 * c + e - 2 * x)) (get_or mv (2 * (r * s + c) + e) (pos 0)) ≡ cond t (pair_of vx vy 0 e) (get_or mv (2 * (r * s + c) + e) (pos 0))
        go true t = let b = within-true x w c (and_left (within x w c) (within y h r) t) in let m : (2 * c + e - 2 * x) % 2 ≡ e % 2 = omega arith in rw m
        go false t = refl

  -- its mark
  mark-at : (marks : List ℕ) → r * s + c < length marks → get_or (stored_marks marks s x y w h) (r * s + c) 0 ≡ cond belongs 1 (get_or marks (r * s + c) 0)
  unfolding stored_marks filled always
  mark-at marks lt = painted-at s x y w h (always 1) marks (r * s + c) 0 lt ∙ rw cell-inside

  -- THE CELL afterwards: the vector where it belongs to the partition, and else what it was
  stored-cell : (vx vy : ℤ) (mv : List ℤ) (marks : List ℕ) → length mv ≡ 2 * length marks → r * s + c < length marks
      → cell_at (stored_vectors mv s x y w h vx vy) (stored_marks marks s x y w h) (r * s + c) ≡ cond belongs (Some (vector vx vy)) (cell_at mv marks (r * s + c))
  unfolding cell_at pair_of when◌then◌else◌
  stored-cell vx vy mv marks twice lt =
      let x₀ = rw add-zero at (number_at 0 (omega arith) vx vy mv (omega arith)) in
      let y₀ = number_at 1 (omega arith) vx vy mv (omega arith) in
      (λ i. shown (mark-at marks lt i) (vector (x₀ i) (y₀ i))) ∙ go belongs _ _ _
    where
      go : (t : Bool) (m : ℕ) (a b : ℤ) → shown (cond t 1 m) (vector (cond t vx a) (cond t vy b)) ≡ cond t (Some (vector vx vy)) (shown m (vector a b))
      go true m a b = refl
      go false m a b = refl

-- ---- a field whose lists have the lengths of its grid
cell-place : (cols rows x y : ℕ) → x < 4 * cols → y < 4 * rows → y * (4 * cols) + x < cell_count cols rows
cell-place cols rows x y lx ly = omega (arith, more (4 * cols) ly)

-- a partition that lies in the grid was stored
module _ (f : Field) (x y w h : ℕ) (vx vy : ℤ) where
  abbrev after : Field
  after = stored_field f x y w h vx vy

  pub stored-cols : after.cols ≡ f.cols
  unfolding stored_field
  stored-cols = refl

  pub stored-rows : after.rows ≡ f.rows
  unfolding stored_field
  stored-rows = refl

  pub stored-sized : FieldSized f → FieldSized after
  unfolding stored_field
  stored-sized s = record { numbers = vectors-length f.mv (4 * f.cols) x y w h vx vy ∙ s.numbers; cells = marks-length f.marks (4 * f.cols) x y w h ∙ s.cells }

  -- ANY CELL of the field afterwards, on the picture or off it
  pub near-stored : FieldSized f → x + w ≤ 4 * f.cols → y + h ≤ 4 * f.rows → (c r : ℕ) → near_at after c r ≡ cond (within x w c && within y h r) (Some (vector vx vy)) (near_at f c r)
  unfolding near_at stored_field when◌then◌else◌
  near-stored s lx ly c r = go (ltb c (4 * f.cols) && ltb r (4 * f.rows)) refl
    where
      old : Option Vector
      old = cell_at f.mv f.marks (r * (4 * f.cols) + c)

      new : Option Vector
      new = cell_at (stored_vectors f.mv (4 * f.cols) x y w h vx vy) (stored_marks f.marks (4 * f.cols) x y w h) (r * (4 * f.cols) + c)

      none : (b : Bool) → (b ≡ true → ⊥) → None ≡ cond b (Some (vector vx vy)) None
      none true n = absurd (n refl)
      none false n = refl

      go : (t : Bool) → (ltb c (4 * f.cols) && ltb r (4 * f.rows)) ≡ t → (when t then new else None) ≡ cond (within x w c && within y h r) (Some (vector vx vy)) (when t then old else None)
      go true e =
          let lc = ltb-true c (4 * f.cols) (and_left (ltb c (4 * f.cols)) (ltb r (4 * f.rows)) e) in
          let lr = ltb-true r (4 * f.rows) (and_right (ltb c (4 * f.cols)) (ltb r (4 * f.rows)) e) in
          stored-cell (4 * f.cols) x y w h r c lc vx vy f.mv f.marks (omega arith) (omega (arith, cell-place f.cols f.rows c r lc lr))
      go false e = none (within x w c && within y h r) (λ t.
          let bx = within-true x w c (and_left (within x w c) (within y h r) t) in
          let by' = within-true y h r (and_right (within x w c) (within y h r) t) in
          true≢false (sym (rw (lt-ltb c (4 * f.cols) (omega arith), lt-ltb r (4 * f.rows) (omega arith)) refl) ∙ e))
