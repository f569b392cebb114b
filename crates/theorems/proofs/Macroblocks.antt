-- The partitions and the blocks of one macroblock: they change nothing outside it, and each place in it once.
-- Assumes nothing.
use mathlib.Core.Path.{◌≡◌, refl, sym, ap, ◌∙◌}
use mathlib.Core.Logic.{◌≢◌}
use mathlib.Core.Bool.{Bool, true, false}
use mathlib.Core.List.{List}
use Prim.Native.Nat.{ℕ, zero, suc, ◌+◌, ◌-◌, ◌*◌, ◌/◌, ◌%◌, ◌≤◌, ◌<◌}
use native.Mathlib.Nat.{div-one}
use native.Mathlib.Omega.{arith}
use lib.Dec.{eqb, lit≤, eqb→eq}
use lib.IntN.{ℤ, pos, ◌+ℤ◌}
use lib.ListN.{length, get_or}
use Rattle.ints.specs.Z.{when◌then◌else◌, toward_zero, clip1_z}
use Rattle.picture.specs.Picture.{filled}
use Rattle.compensation.specs.Sample.{sample_at, sixths, block_sample}
use Rattle.transform.specs.Tables.{dequant_coeff, chroma_coeff}
use Rattle.transform.specs.Residual.{placed, residual}
use Rattle.transform.specs.Added.{added}
use Rattle.levels.specs.Pattern.{quadrant_coded}
use Rattle.levels.proofs.ShortTable.{at}
use Rattle.vectors.specs.Modes.{partition_width, partition_height, num_motion_vectors, offset_x, offset_y}
use Rattle.vectors.proofs.Partitions.{inside-units, Holds, tiles}
use Rattle.picture.specs.Field.{Field}
use Rattle.vectors.specs.Stored.{stored_vectors, stored_marks, stored_field}
use Rattle.state.specs.declared.Call.{Call}
use Rattle.record.specs.declared.Head.{Head}
use Rattle.levels.specs.Items.{item_coded, item_place}
use Rattle.levels.proofs.ListKinds.{is-luma}
use Rattle.reading.specs.Read.{stored_at}
use Rattle.apply.specs.Moved.{vector_x, vector_y, unit, part_x, part_y, moved_block, moved_once, moved_up_to}
use Rattle.apply.specs.Blocks.{cell_of_block, luma_up_to, dc_of, chroma_up_to}
use Rattle.apply.specs.Apply.{stored_up_to}
use Rattle.theorems.specs.Samples.{quadrant_at, luma_block_at, chroma_block_at}
use Rattle.theorems.specs.Outside.{Outside, SamplesOutside, VectorsOutside, MarksOutside}
use Rattle.theorems.proofs.Painted.{Among, Covers, by-test, if-at, outside-same, outside-then, outside-painted, painted-here, painted-elsewhere, added-here, added-elsewhere, once}

-- ---- the rectangles of a macroblock, n samples wide and high, and of partition i
abbrev pub SquareCovers : ℕ → ℕ → ℕ → ℕ → ℕ → ℕ → ℕ → Type 0
SquareCovers n column row = Covers (n * column) (n * row) n n

abbrev pub SquareHolds : ℕ → ℕ → ℕ → ℕ → ℕ → Type 0
SquareHolds n column row = Among (n * column) (n * row) n n

abbrev pub PartHolds : ℕ → Call → ℕ → ℕ → ℕ → Type 0
PartHolds u call i = Among (part_x u call i) (part_y u call i) (partition_width call.mode / u) (partition_height call.mode / u)

pub part_in : (chroma : Bool) (call : Call) (i : ℕ) → call.mode ≤ 7 → i < num_motion_vectors call.mode
    → let u = unit chroma in SquareCovers (16 / u) call.column call.row (part_x u call i) (part_y u call i) (partition_width call.mode / u) (partition_height call.mode / u)
unfolding part_x part_y
part_in true call i m l = let p = inside-units 1 call.mode i (lit≤ tt) m l in record { left = omega arith; right = omega arith; top = omega arith; bottom = omega arith }
part_in false call i m l =
    let p = inside-units 0 call.mode i (lit≤ tt) m l in
    let x = div-one (16 * call.column + offset_x call.mode i) in
    let y = div-one (16 * call.row + offset_y call.mode i) in
    let ox = div-one (offset_x call.mode i) in
    let oy = div-one (offset_y call.mode i) in
    record { left = omega arith; right = omega arith; top = omega arith; bottom = omega arith }

pub moved-outside : (chroma : Bool) (n cols rows : ℕ) (ref : List ℕ) (call : Call) (vs : List ℤ) (pic : List ℕ) → call.mode ≤ 7 → n ≤ num_motion_vectors call.mode
    → SamplesOutside (unit chroma) cols call.column call.row pic (moved_up_to n (unit chroma) cols rows ref call vs pic)
unfolding moved_up_to moved_once
moved-outside chroma zero cols rows ref call vs pic m l = outside-same pic
moved-outside chroma (suc n) cols rows ref call vs pic m l =
    outside-then (moved-outside chroma n cols rows ref call vs pic m (omega arith)) (outside-painted _ _ (part_in chroma call n m l))

-- ---- the cell of a luma block
right_column : ℕ → Bool
right_column n = eqb (cell_of_block n % 4) (2 * (n / 4 % 2) + n % 2)

right_row : ℕ → Bool
right_row n = eqb (cell_of_block n / 4) (2 * (n / 8) + n / 2 % 2)

cell-column : (n : ℕ) → n < 16 → cell_of_block n % 4 ≡ 2 * (n / 4 % 2) + n % 2
unfolding right_column cell_of_block
cell-column n l = eqb→eq _ _ (at right_column 16 tt n l)

cell_row : (n : ℕ) → n < 16 → cell_of_block n / 4 ≡ 2 * (n / 8) + n / 2 % 2
unfolding right_row cell_of_block
cell_row n l = eqb→eq _ _ (at right_row 16 tt n l)

cell-small : (n : ℕ) → n < 16 → (cell_of_block n % 4 < 4) × (cell_of_block n / 4 < 4)
cell-small n l = (omega (arith, cell-column n l), omega (arith, cell_row n l))

-- ---- residuals
pub luma-outside : (n cols : ℕ) (h : Head) (levels : List ℤ) (pic : List ℕ) → n ≤ 16 → SamplesOutside 1 cols h.column h.row pic (luma_up_to n cols h levels pic)
unfolding luma_up_to added
luma-outside zero cols h levels pic l = outside-same pic
luma-outside (suc n) cols h levels pic l =
    let c = cell-small n l in
    outside-then (luma-outside n cols h levels pic (omega arith))
    (by-test (Outside _ _ _ _ _ _) (item_coded h.pattern n) (outside-painted _ _ (record { left = omega arith; right = omega arith; top = omega arith; bottom = omega arith })) (outside-same _))

pub chroma-outside : (n plane cols : ℕ) (h : Head) (levels : List ℤ) (pic : List ℕ) → n ≤ 4 → SamplesOutside 2 cols h.column h.row pic (chroma_up_to n plane cols h levels pic)
unfolding chroma_up_to added
chroma-outside zero plane cols h levels pic l = outside-same pic
chroma-outside (suc n) plane cols h levels pic l =
    outside-then (chroma-outside n plane cols h levels pic (omega arith)) (outside-painted _ _ (record { left = omega arith; right = omega arith; top = omega arith; bottom = omega arith }))

-- ---- vectors and marks
pub record FieldOutside (column row : ℕ) (f g : Field) : Type 0 where
  pub cols : g.cols ≡ f.cols
  pub vectors : VectorsOutside f.cols column row f.mv g.mv
  pub marks : MarksOutside f.cols column row f.marks g.marks

pub field_stored : (column row x y wide high : ℕ) (f : Field) (vx vy : ℤ) → SquareCovers 4 column row x y wide high → FieldOutside column row f (stored_field f x y wide high vx vy)
unfolding stored_field stored_vectors stored_marks filled
field_stored column row x y wide high f vx vy c = record {
  cols = refl;
  vectors = outside-painted _ _ (record { left = omega arith; right = omega arith; top = omega arith; bottom = omega arith });
  marks = outside-painted _ _ (record { left = omega arith; right = omega arith; top = omega arith; bottom = omega arith });
}

field-then : {column row : ℕ} {f g h : Field} → FieldOutside column row f g → FieldOutside column row g h → FieldOutside column row f h
field-then p q = record { cols = q.cols ∙ p.cols; vectors = outside-then p.vectors (rw p.cols at q.vectors); marks = outside-then p.marks (rw p.cols at q.marks) }

pub stored-outside : (n : ℕ) (call : Call) (vs : List ℤ) (f : Field) → call.mode ≤ 7 → n ≤ num_motion_vectors call.mode → FieldOutside call.column call.row f (stored_up_to n call vs f)
unfolding stored_up_to stored_at
stored-outside zero call vs f m l = record { cols = refl; vectors = outside-same f.mv; marks = outside-same f.marks }
stored-outside (suc n) call vs f m l =
    let p = inside-units 2 call.mode n (lit≤ tt) m l in
    field-then (stored-outside n call vs f m (omega arith)) (field_stored _ _ _ _ _ _ _ _ _ (record { left = omega arith; right = omega arith; top = omega arith; bottom = omega arith }))

-- ---- at column X of row Y: the partition that holds it says what compensation leaves there
held : (chroma : Bool) (call : Call) (i X Y : ℕ) → PartHolds (unit chroma) call i X Y → Holds (unit chroma) call.mode i (X - 16 / unit chroma * call.column) (Y - 16 / unit chroma * call.row)
unfolding part_x part_y
held true call i X Y p = record { left = omega (arith, p.left); right = omega (arith, p.left, p.right); top = omega (arith, p.top); bottom = omega (arith, p.top, p.bottom) }
held false call i X Y p = record { left = omega (arith, p.left); right = omega (arith, p.left, p.right); top = omega (arith, p.top); bottom = omega (arith, p.top, p.bottom) }

-- no other holds it
same-part : (chroma : Bool) (call : Call) (n i X Y : ℕ) → call.mode ≤ 7 → n < num_motion_vectors call.mode → PartHolds (unit chroma) call n X Y → PartHolds (unit chroma) call i X Y → n ≡ i
same-part true call n i X Y m l p q =
    let a = X - 8 * call.column in
    let b = Y - 8 * call.row in
    let k : a < 8 = omega (arith, p.right, (part_in true call n m l).right) in
    (tiles 1 call.mode n a b (lit≤ tt) m k).0 (held true call n X Y p) ∙ sym ((tiles 1 call.mode i a b (lit≤ tt) m k).0 (held true call i X Y q))
same-part false call n i X Y m l p q =
    let a = X - 16 * call.column in
    let b = Y - 16 * call.row in
    let k : a < 16 = omega (arith, p.right, (part_in false call n m l).right) in
    (tiles 0 call.mode n a b (lit≤ tt) m k).0 (held false call n X Y p) ∙ sym ((tiles 0 call.mode i a b (lit≤ tt) m k).0 (held false call i X Y q))

pub moved_at : (chroma : Bool) (cols rows : ℕ) (ref : List ℕ) (call : Call) (vs : List ℤ) (pic : List ℕ) (i X Y : ℕ) → call.mode ≤ 7 → i < num_motion_vectors call.mode → PartHolds (unit chroma) call i X Y
    → X < 16 / unit chroma * cols → Y * (16 / unit chroma * cols) + X < length pic
    → get_or (moved_up_to (num_motion_vectors call.mode) (unit chroma) cols rows ref call vs pic) (Y * (16 / unit chroma * cols) + X) 0
    ≡ sample_at ref (16 / unit chroma * cols) (16 / unit chroma * rows) (sixths (pos X) (toward_zero (vector_x vs i) (unit chroma))) (sixths (pos Y) (toward_zero (vector_y vs i) (unit chroma)))
unfolding moved_up_to moved_once moved_block block_sample
moved_at chroma cols rows ref call vs pic i X Y m l p wide fits =
    let u = unit chroma in
    let s = 16 / u * cols in
    let there : ℕ → List ℕ = λ n. moved_up_to n u cols rows ref call vs pic in
    let ex : part_x u call i + (X - part_x u call i) ≡ X = omega (arith, p.left) in
    let ey : part_y u call i + (Y - part_y u call i) ≡ Y = omega (arith, p.top) in
    once (λ n. get_or (there n) (Y * s + X) 0) (λ old. sample_at ref s (16 / u * rows) (sixths (pos X) (toward_zero (vector_x vs i) u)) (sixths (pos Y) (toward_zero (vector_y vs i) u)))
    i (num_motion_vectors call.mode) l
    (λ n k e. painted-elsewhere s _ _ _ _ _ (there n) X Y 0 wide (λ a. e (same-part chroma call n i X Y m k a p)))
    (painted-here s _ _ _ _ _ (there i) X Y 0 wide (rw (moved-outside chroma i cols rows ref call vs pic m (omega arith)).size fits) p ∙ rw (ex, ey))

-- ---- and the block that holds it, what the residual leaves there
-- the block of luma column a and row b
block-digits : (p q r t m : ℕ) → p < 2 → q < 2 → r < 2 → t < 2 → m ≡ 4 * (2 * r + p) + (2 * t + q) → (m / 4 % 2 ≡ p) × (m % 2 ≡ q) × (m / 8 ≡ r) × (m / 2 % 2 ≡ t)
block-digits p q r t m hp hq hr ht e = (omega arith, omega arith, omega arith, omega arith)

module _ (a b : ℕ) (la : a < 16) (lb : b < 16) where
  block-among : luma_block_at a b < 16
  unfolding luma_block_at quadrant_at
  block-among = omega arith

  block-quadrant : luma_block_at a b / 4 ≡ quadrant_at a b
  unfolding luma_block_at quadrant_at
  block-quadrant = omega arith

  block-cell : (cell_of_block (luma_block_at a b) % 4 ≡ a / 4) × (cell_of_block (luma_block_at a b) / 4 ≡ b / 4)
  unfolding luma_block_at quadrant_at
  block-cell =
      let d = block-digits (a / 8) (a / 4 % 2) (b / 8) (b / 4 % 2) (luma_block_at a b) (omega arith) (omega arith) (omega arith) (omega arith) (omega arith) in
      (cell-column (luma_block_at a b) block-among ∙ rw (d.0, d.1) (omega arith), cell_row (luma_block_at a b) block-among ∙ rw (d.2, d.3) (omega arith))

  block-only : (n : ℕ) → n < 16 → cell_of_block n % 4 ≡ a / 4 → cell_of_block n / 4 ≡ b / 4 → n ≡ luma_block_at a b
  unfolding luma_block_at quadrant_at
  block-only n l p q =
      let x = digits a (n / 4 % 2) (n % 2) (omega arith) (sym p ∙ cell-column n l) in
      let y = digits b (n / 8) (n / 2 % 2) (omega arith) (sym q ∙ cell_row n l) in
      rw (x.0, x.1, y.0, y.1) (whole n)
    where
      whole : (n : ℕ) → n ≡ 4 * (2 * (n / 8) + n / 4 % 2) + (2 * (n / 2 % 2) + n % 2)
      whole n =
          let h : n / 8 ≡ n / 4 / 2 = omega arith in
          let q : n / 4 ≡ n / 2 / 2 = omega arith in
          rw (h, q) (omega arith)

      digits : (a p q : ℕ) → q < 2 → a / 4 ≡ 2 * p + q → (a / 8 ≡ p) × (a / 4 % 2 ≡ q)
      digits a p q h e = (omega arith, omega arith)

pub luma-at : (cols : ℕ) (h : Head) (levels : List ℤ) (pic : List ℕ) (X Y : ℕ) → SquareHolds 16 h.column h.row X Y → X < 16 * cols → Y * (16 * cols) + X < length pic
    → let a = X % 16 in let b = Y % 16 in let v = get_or pic (Y * (16 * cols) + X) 0 in
    get_or (luma_up_to 16 cols h levels pic) (Y * (16 * cols) + X) 0
    ≡ (when quadrant_coded h.pattern (quadrant_at a b) then clip1_z (pos v +ℤ residual (dequant_coeff h.quantiser) (pos 0) (placed levels (item_place (luma_block_at a b))) (b % 4) (a % 4)) else v)
unfolding luma_up_to
luma-at cols h levels pic X Y sq wide fits =
    once (λ n. get_or (there n) (Y * s + X) 0) (λ v. when quadrant_coded h.pattern (quadrant_at a b) then clip1_z (pos v +ℤ ours (b % 4) (a % 4)) else v) m 16 among other here
  where
    s : ℕ
    s = 16 * cols

    a : ℕ
    a = X % 16

    b : ℕ
    b = Y % 16

    la : a < 16
    la = omega arith

    lb : b < 16
    lb = omega arith

    m : ℕ
    m = luma_block_at a b

    among : m < 16
    among = block-among a b la lb

    there : ℕ → List ℕ
    there n = luma_up_to n cols h levels pic

    ours : ℕ → ℕ → ℤ
    ours = residual (dequant_coeff h.quantiser) (pos 0) (placed levels (item_place m))

    other : (n : ℕ) → n < 16 → n ≢ m → get_or (there (suc n)) (Y * s + X) 0 ≡ get_or (there n) (Y * s + X) 0
    other n l e = by-test (λ (p : List ℕ). get_or p (Y * s + X) 0 ≡ get_or (there n) (Y * s + X) 0) (item_coded h.pattern n)
        (added-elsewhere s _ _ _ (there n) X Y wide (λ p. e (block-only a b la lb n l (omega arith) (omega arith))))
        refl

    here : get_or (there (suc m)) (Y * s + X) 0 ≡ (when quadrant_coded h.pattern (quadrant_at a b) then clip1_z (pos (get_or (there m) (Y * s + X) 0) +ℤ ours (b % 4) (a % 4)) else get_or (there m) (Y * s + X) 0)
    here =
        let c = block-cell a b la lb in
        let x : X - (16 * h.column + 4 * (cell_of_block m % 4)) ≡ a % 4 = omega (arith, c.0) in
        let y : Y - (16 * h.row + 4 * (cell_of_block m / 4)) ≡ b % 4 = omega (arith, c.1) in
        let size = (luma-outside m cols h levels pic (omega (arith, among))).size in
        if-at _ _ (there m) _ (Y * s + X) ((is-luma m among).coded h.pattern ∙ ap (quadrant_coded h.pattern) (block-quadrant a b la lb))
        (added-here s _ _ ours (there m) X Y wide (rw size fits) (record { left = omega (arith, c.0); right = omega (arith, c.0); top = omega (arith, c.1); bottom = omega (arith, c.1) }) ∙ rw (x, y))

pub chroma-at : (plane cols : ℕ) (h : Head) (levels : List ℤ) (pic : List ℕ) (X Y : ℕ) → SquareHolds 8 h.column h.row X Y → X < 8 * cols → Y * (8 * cols) + X < length pic
    → let a = X % 8 in let b = Y % 8 in let n = chroma_block_at a b in let v = get_or pic (Y * (8 * cols) + X) 0 in
    get_or (chroma_up_to 4 plane cols h levels pic) (Y * (8 * cols) + X) 0
    ≡ clip1_z (pos v +ℤ residual (chroma_coeff h.quantiser) (dc_of h levels plane n) (placed levels (item_place (18 + 4 * plane + n))) (b % 4) (a % 4))
unfolding chroma_up_to chroma_block_at
chroma-at plane cols h levels pic X Y sq wide fits =
    once (λ n. get_or (there n) (Y * s + X) 0) (λ v. clip1_z (pos v +ℤ ours (Y % 8 % 4) (X % 8 % 4))) m 4 (omega arith) other here
  where
    s : ℕ
    s = 8 * cols

    m : ℕ
    m = chroma_block_at (X % 8) (Y % 8)

    there : ℕ → List ℕ
    there n = chroma_up_to n plane cols h levels pic

    ours : ℕ → ℕ → ℤ
    ours = residual (chroma_coeff h.quantiser) (dc_of h levels plane m) (placed levels (item_place (18 + 4 * plane + m)))

    other : (n : ℕ) → n < 4 → n ≢ m → get_or (there (suc n)) (Y * s + X) 0 ≡ get_or (there n) (Y * s + X) 0
    other n l e = added-elsewhere s _ _ _ (there n) X Y wide (λ p. e (omega arith))

    here : get_or (there (suc m)) (Y * s + X) 0 ≡ clip1_z (pos (get_or (there m) (Y * s + X) 0) +ℤ ours (Y % 8 % 4) (X % 8 % 4))
    here =
        let x : X - (8 * h.column + 4 * (m % 2)) ≡ X % 8 % 4 = omega arith in
        let y : Y - (8 * h.row + 4 * (m / 2)) ≡ Y % 8 % 4 = omega arith in
        let size = (chroma-outside m plane cols h levels pic (omega arith)).size in
        added-here s _ _ ours (there m) X Y wide (rw size fits) (record { left = omega arith; right = omega arith; top = omega arith; bottom = omega arith }) ∙ rw (x, y)
