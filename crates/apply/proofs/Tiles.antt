-- The partitions of a macroblock, stored one after another, leave in each of its cells what the cell's own partition has.
-- Assumes nothing.
use mathlib.Core.Path.{◌≡◌, refl, sym, ap, ◌∙◌}
use mathlib.Core.Bool.{Bool, true, false, cond, ◌&&◌}
use mathlib.Core.Logic.{◌≢◌}
use mathlib.Core.List.{List}
use Prim.Native.Nat.{ℕ, zero, suc, ◌+◌, ◌-◌, ◌*◌, ◌/◌, ◌%◌, ◌^◌, ◌≤◌, ◌<◌}
use native.Mathlib.Nat.{le_refl}
use native.Mathlib.Omega.{arith}
use borrow.Author.Tests.{eq-eqb, eqb-true, eqb-false, ltb-true, lt-ltb, le-ltb}
use lib.Dec.{eqb, ltb}
use lib.IntN.{ℤ, pos}
use lib.ListN.{length, get_or}
use Rattle.ints.specs.Z.{when◌then◌else◌}
use Rattle.picture.specs.Painted.{within, inside, painted}
use Rattle.picture.specs.Picture.{always, filled}
use Rattle.picture.proofs.Laws.{each_at_lem, each-is, painted-length, both_true, within-true, within_in}
use Rattle.vectors.specs.Modes.{partition_width, partition_height, num_motion_vectors, offset_x, offset_y}
use Rattle.vectors.proofs.Partitions.{inside-units, Holds, tiles, tiles-all}
use Rattle.picture.specs.Field.{Field}
use Rattle.vectors.specs.Stored.{pair_of, stored_vectors, stored_marks, stored_field}
use Rattle.vectors.proofs.Tests.{same_test}
use Rattle.state.specs.declared.Call.{Call}
use Rattle.reading.specs.Read.{cell_x, cell_y, cells_wide, cells_high, stored_at}
use Rattle.apply.specs.Moved.{vector_x, vector_y}
use Rattle.apply.specs.Apply.{stored_up_to}
use Rattle.apply.specs.InnerCells.{owner_of, own_number}

-- ---- a cell lies in partition n exactly where it lies in the macroblock and n is its partition
pub tile-test : (mode n x y c r : ℕ) → mode ≤ 7 → n < num_motion_vectors mode
    → (within (x + offset_x mode n / 4) (partition_width mode / 4) c && within (y + offset_y mode n / 4) (partition_height mode / 4) r) ≡ ((within x 4 c && within y 4 r) && eqb (owner_of mode (c - x) (r - y)) n)
unfolding owner_of
tile-test mode n x y c r k l = same_test here own to back
  where
    here : Bool
    here = within (x + offset_x mode n / 4) (partition_width mode / 4) c && within (y + offset_y mode n / 4) (partition_height mode / 4) r

    own : Bool
    own = (within x 4 c && within y 4 r) && eqb (owner_of mode (c - x) (r - y)) n

    to : here ≡ true → own ≡ true
    to t =
        let b = both_true _ _ t in
        let bx = within-true (x + offset_x mode n / 4) (partition_width mode / 4) c b.0 in
        let by' = within-true (y + offset_y mode n / 4) (partition_height mode / 4) r b.1 in
        let i = inside-units 2 mode n (omega arith) k l in
        let h : Holds (2 ^ 2) mode n (c - x) (r - y) = record { left = omega arith; right = omega arith; top = omega arith; bottom = omega arith } in
        let e = (tiles 2 mode n (c - x) (r - y) (omega arith) k (omega arith)).0 h in
        rw (within_in x 4 c (omega arith) (omega arith), within_in y 4 r (omega arith) (omega arith), eq-eqb (owner_of mode (c - x) (r - y)) n (sym e)) refl

    back : own ≡ true → here ≡ true
    back t =
        let b = both_true _ _ t in
        let d = both_true _ _ b.0 in
        let bx = within-true x 4 c d.0 in
        let by' = within-true y 4 r d.1 in
        let e = sym (eqb-true (owner_of mode (c - x) (r - y)) n b.1) in
        let h = (tiles 2 mode n (c - x) (r - y) (omega arith) k (omega arith)).1 e in
        rw (within_in (x + offset_x mode n / 4) (partition_width mode / 4) c (omega (arith, h.left)) (omega (arith, h.right)), within_in (y + offset_y mode n / 4) (partition_height mode / 4) r (omega (arith, h.top)) (omega (arith, h.bottom))) refl

-- no partition
tile-none : {A : Type 0} (t : Bool) (o : ℕ) (q old : A) → old ≡ cond (t && ltb o 0) q old
tile-none false o q old = refl
tile-none true o q old = rw (le-ltb o 0 (omega arith)) refl

-- one partition more
tile-more : {A : Type 0} (t : Bool) (o n : ℕ) (p q old : A) → (t ≡ true → o ≡ n → p ≡ q) → cond (t && eqb o n) p (cond (t && ltb o n) q old) ≡ cond (t && ltb o (suc n)) q old
tile-more false o n p q old e = refl
tile-more true o n p q old e = go (eqb o n) refl
  where
    go : (b : Bool) → eqb o n ≡ b → cond b p (cond (ltb o n) q old) ≡ cond (ltb o (suc n)) q old
    go true f = let i = eqb-true o n f in rw (lt-ltb o (suc n) (omega arith)) (e refl i)
    go false f =
        let d : o ≢ n = eqb-false o n f in
        ap (λ (b : Bool). cond b q old) (same_test (ltb o n) (ltb o (suc n)) (λ t. lt-ltb o (suc n) (omega (arith, ltb-true o n t))) (λ t. lt-ltb o n (omega (arith, ltb-true o (suc n) t, d))))

-- all of them
tile-all : {A : Type 0} (t : Bool) (o n : ℕ) (p q old : A) → (t ≡ true → (o < n) × (p ≡ q)) → cond (t && ltb o n) p old ≡ cond t q old
tile-all false o n p q old e = refl
tile-all true o n p q old e = rw (lt-ltb o n (e refl).0) (e refl).1

-- ---- numbers: two a cell
pair-test : (x w j : ℕ) → within (2 * x) (2 * w) j ≡ within x w (j / 2)
pair-test x w j =
    same_test
    (within (2 * x) (2 * w) j)
    (within x w (j / 2))
    (λ t. let b = within-true (2 * x) (2 * w) j t in within_in x w (j / 2) (omega arith) (omega arith))
    (λ t. let b = within-true x w (j / 2) t in within_in (2 * x) (2 * w) j (omega arith) (omega arith))

pair-number : (vs : List ℤ) (o j : ℕ) → pair_of (vector_x vs o) (vector_y vs o) 0 j ≡ get_or vs (2 * o + j % 2) (pos 0)
unfolding pair_of when◌then◌else◌
pair-number vs o j = go (j % 2) (omega arith)
  where
    go : (m : ℕ) → m < 2 → (when eqb m 0 then vector_x vs o else vector_y vs o) ≡ get_or vs (2 * o + m) (pos 0)
    go zero h = let e : 2 * o + 0 ≡ 2 * o = omega arith in rw e refl
    go (suc zero) h = refl
    go (suc (suc m)) h = absurd (omega arith)

module _ (call : Call) (vs : List ℤ) (f : Field) (k : call.mode ≤ 7) where
  abbrev up_to : ℕ → Field
  up_to n = stored_up_to n call vs f

  abbrev total : ℕ
  total = num_motion_vectors call.mode

  up-cols : (n : ℕ) → (up_to n).cols ≡ f.cols
  unfolding stored_up_to stored_at stored_field
  up-cols zero = refl
  up-cols (suc n) = up-cols n

  up-numbers : (n : ℕ) → length (up_to n).mv ≡ length f.mv
  unfolding stored_up_to stored_at stored_field stored_vectors
  up-numbers zero = refl
  up-numbers (suc n) = painted-length _ _ _ _ _ _ (up_to n).mv ∙ up-numbers n

  up-marks : (n : ℕ) → length (up_to n).marks ≡ length f.marks
  unfolding stored_up_to stored_at stored_field stored_marks filled
  up-marks zero = refl
  up-marks (suc n) = painted-length _ _ _ _ _ _ (up_to n).marks ∙ up-marks n

  -- a cell of the macroblock, by its column and row, and its partition
  abbrev ours : ℕ → ℕ → Bool
  ours c r = within (4 * call.column) 4 c && within (4 * call.row) 4 r

  abbrev owner : ℕ → ℕ → ℕ
  owner c r = owner_of call.mode (c - 4 * call.column) (r - 4 * call.row)

  module _ (i : ℕ) where
    -- of a number
    abbrev s : ℕ
    s = 2 * (4 * f.cols)

    abbrev c₂ : ℕ
    c₂ = i % s / 2

    abbrev r₂ : ℕ
    r₂ = i / s

    abbrev number : ℕ → ℤ
    number j = pair_of (vector_x vs j) (vector_y vs j) 0 (i % s)

    -- in partition n
    number-test : (n : ℕ) → n < total → inside s (2 * cell_x call n) (cell_y call n) (2 * cells_wide call) (cells_high call) i ≡ (ours c₂ r₂ && eqb (owner c₂ r₂) n)
    unfolding inside
    number-test n l = rw (pair-test (cell_x call n) (cells_wide call) (i % s)) (tile-test call.mode n (4 * call.column) (4 * call.row) c₂ r₂ k l)

    number_same : (n : ℕ) → n < total → ours c₂ r₂ ≡ true → owner c₂ r₂ ≡ n → pair_of (vector_x vs n) (vector_y vs n) (i / s - cell_y call n) (i % s - 2 * cell_x call n) ≡ number (owner c₂ r₂)
    unfolding pair_of
    number_same n l t e =
        let h = tile-test call.mode n (4 * call.column) (4 * call.row) c₂ r₂ k l ∙ (λ j. t j && eq-eqb (owner c₂ r₂) n e j) in
        let b = within-true (cell_x call n) (cells_wide call) c₂ (both_true _ _ h).0 in
        let m : (i % s - 2 * cell_x call n) % 2 ≡ i % s % 2 = omega arith in
        rw (m, e) refl

    number_up : (n : ℕ) → n ≤ total → i < length f.mv → get_or (up_to n).mv i (pos 0) ≡ cond (ours c₂ r₂ && ltb (owner c₂ r₂) n) (number (owner c₂ r₂)) (get_or f.mv i (pos 0))
    unfolding stored_up_to stored_at stored_field stored_vectors painted
    number_up zero h l = tile-none (ours c₂ r₂) (owner c₂ r₂) _ _
    number_up (suc n) h l =
        each_at_lem _ (up_to n).mv i (pos 0) (rw (up-numbers n) l)
        ∙ rw (up-cols n) (
        (λ j. cond (number-test n (omega arith) j) (pair_of (vector_x vs n) (vector_y vs n) (i / s - cell_y call n) (i % s - 2 * cell_x call n)) (number_up n (omega arith) l j))
        ∙ tile-more (ours c₂ r₂) (owner c₂ r₂) n _ (number (owner c₂ r₂)) (get_or f.mv i (pos 0)) (number_same n (omega arith)))

    -- of a mark
    abbrev c₁ : ℕ
    c₁ = i % (4 * f.cols)

    abbrev r₁ : ℕ
    r₁ = i / (4 * f.cols)

    mark-test : (n : ℕ) → n < total → inside (4 * f.cols) (cell_x call n) (cell_y call n) (cells_wide call) (cells_high call) i ≡ (ours c₁ r₁ && eqb (owner c₁ r₁) n)
    unfolding inside
    mark-test n l = tile-test call.mode n (4 * call.column) (4 * call.row) c₁ r₁ k l

    mark-up : (n : ℕ) → n ≤ total → i < length f.marks → get_or (up_to n).marks i 0 ≡ cond (ours c₁ r₁ && ltb (owner c₁ r₁) n) 1 (get_or f.marks i 0)
    unfolding stored_up_to stored_at stored_field stored_marks filled painted always
    mark-up zero h l = tile-none (ours c₁ r₁) (owner c₁ r₁) 1 _
    mark-up (suc n) h l =
        each_at_lem _ (up_to n).marks i 0 (rw (up-marks n) l)
        ∙ rw (up-cols n) (
        (λ j. cond (mark-test n (omega arith) j) 1 (mark-up n (omega arith) l j))
        ∙ tile-more (ours c₁ r₁) (owner c₁ r₁) n 1 1 (get_or f.marks i 0) (λ t e. refl))

  -- ALL OF THEM: each cell of the macroblock has the vector of its own partition, and its mark is 1
  module _ (z : 0 < call.mode) where
    own-among : (c r : ℕ) → ours c r ≡ true → owner c r < total
    unfolding owner_of
    own-among c r t =
        let b = both_true _ _ t in
        let bx = within-true (4 * call.column) 4 c b.0 in
        let by' = within-true (4 * call.row) 4 r b.1 in
        tiles-all 2 call.mode (c - 4 * call.column) (r - 4 * call.row) (omega arith) z k (omega arith) (omega arith)

    pub tiled-marks : painted (4 * f.cols) (4 * call.column) (4 * call.row) 4 4 (always 1) f.marks ≡ (up_to total).marks
    unfolding painted inside always
    tiled-marks = sym (each-is _ 0 f.marks (up_to total).marks (up-marks total) (λ i l.
        mark-up i total (le_refl total) l ∙ tile-all (ours (c₁ i) (r₁ i)) (owner (c₁ i) (r₁ i)) total 1 1 _ (λ t. (own-among (c₁ i) (r₁ i) t, refl))))

    module _ (whose : ℕ) (w : (c r : ℕ) → c < 4 → r < 4 → whose / 2 ^ (16 * r) / 2 ^ (4 * c) % 16 ≡ owner_of call.mode c r) where
      abbrev own : ℕ → ℕ → ℤ
      own r = own_number vs (whose / 2 ^ (16 * r))

      own-number : (i : ℕ) → ours (c₂ i) (r₂ i) ≡ true → number i (owner (c₂ i) (r₂ i)) ≡ own (i / s i - 4 * call.row) (i % s i - 2 * (4 * call.column))
      unfolding own_number
      own-number i t =
          let b = both_true _ _ t in
          let bx = within-true (4 * call.column) 4 (c₂ i) b.0 in
          let by' = within-true (4 * call.row) 4 (r₂ i) b.1 in
          let h : (i % s i - 2 * (4 * call.column)) / 2 ≡ c₂ i - 4 * call.column = omega arith in
          let m : (i % s i - 2 * (4 * call.column)) % 2 ≡ i % s i % 2 = omega arith in
          pair-number vs (owner (c₂ i) (r₂ i)) (i % s i) ∙ rw (h, m, w (c₂ i - 4 * call.column) (r₂ i - 4 * call.row) (omega arith) (omega arith)) refl

      pub tiled-numbers : painted (2 * (4 * f.cols)) (2 * (4 * call.column)) (4 * call.row) 8 4 own f.mv ≡ (up_to total).mv
      unfolding painted inside
      tiled-numbers = sym (each-is _ (pos 0) f.mv (up_to total).mv (up-numbers total) (λ i l.
          number_up i total (le_refl total) l
          ∙ tile-all (ours (c₂ i) (r₂ i)) (owner (c₂ i) (r₂ i)) total _ (own (i / s i - 4 * call.row) (i % s i - 2 * (4 * call.column))) _ (λ t. (own-among (c₂ i) (r₂ i) t, own-number i t))
          ∙ rw (pair-test (4 * call.column) 4 (i % s i)) refl))
