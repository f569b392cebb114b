-- The residual of a macroblock by squares of 8 × 8, and blocks that have no levels but their DC.
-- Assumes nothing.
use mathlib.Core.Path.{◌≡◌, refl, sym, ap, ◌∙◌}
use mathlib.Core.Bool.{Bool, true, false}
use mathlib.Core.List.{List}
use Prim.Native.Nat.{ℕ, suc, ◌+◌, ◌-◌, ◌*◌, ◌/◌, ◌%◌, ◌≤◌, ◌<◌}
use native.Mathlib.Nat.{mul-le-mul_right, le_trans}
use native.Mathlib.Omega.{arith}
use lib.Dec.{eqb, lit<, eqb→eq}
use lib.IntN.{ℤ, pos, ◌*ℤ◌}
use lib.ListN.{length, get_or, take, drop, get_or-replicate}
use lib.Seq.{get_or-take, get_or-drop}
use Rattle.ints.specs.Z.{when◌then◌else◌, sat_z}
use Rattle.picture.specs.Painted.{Inside}
use Rattle.transform.specs.Tables.{dequant_coeff, chroma_coeff}
use Rattle.transform.specs.Residual.{placed, scaled, weighed, rows_of, columns_of, rounded, residual}
use Rattle.transform.specs.InnerResidual.{no_levels, luma_residual, chroma_residual}
use Rattle.transform.specs.ChromaDc.{chroma_dc}
use Rattle.transform.specs.Added.{added}
use Rattle.transform.specs.InnerFour.{added_four}
use Rattle.transform.proofs.Squares.{four-added}
use Rattle.levels.specs.Pattern.{class_of, quadrant_coded}
use Rattle.levels.proofs.ShortTable.{at}
use Rattle.record.specs.declared.Head.{Head}
use Rattle.levels.specs.Items.{item_coded, item_count, item_place, item_levels, ListsRange}
use Rattle.record.specs.Range.{ItemRange}
use Rattle.levels.proofs.ListKinds.{is-luma, is-dc, is-ac}
use Rattle.apply.specs.Blocks.{cell_of_block, luma_up_to, dc_of, chroma_up_to}
use Rattle.apply.specs.InnerSquares.{quadrant_added, square_added}

-- a quadrant lies in its macroblock
pub quadrant-inside : {st x y size : ℕ} (q : ℕ) → q < 4 → Inside st x y 16 16 size → Inside st (x + 8 * (q % 2)) (y + 8 * (q / 2)) 8 8 size
quadrant-inside {st} {x} {y} q l i =
    let d : (y + 8 * (q / 2) + 8) * st ≤ (y + 16) * st = mul-le-mul_right st (omega arith) in
    record { some = i.some; across = omega (arith, i.across); down = le_trans d i.down }

-- ---- luma: block b of quadrant q is the raster cell at entry 4q + b
right_x : ℕ → Bool
right_x n = eqb (4 * (cell_of_block n % 4)) (8 * (n / 4 % 2) + 4 * (n % 4 % 2))

right_y : ℕ → Bool
right_y n = eqb (4 * (cell_of_block n / 4)) (8 * (n / 4 / 2) + 4 * (n % 4 / 2))

cell-of : (n q b : ℕ) → q < 4 → b < 4 → n ≡ 4 * q + b → (4 * (cell_of_block n % 4) ≡ 8 * (q % 2) + 4 * (b % 2)) × (4 * (cell_of_block n / 4) ≡ 8 * (q / 2) + 4 * (b / 2))
unfolding right_x right_y cell_of_block
cell-of n q b h k e =
    let l : n < 16 = omega arith in
    let d : n / 4 ≡ q = omega arith in
    let m : n % 4 ≡ b = omega arith in (
      rw (← d, ← m) (eqb→eq _ _ (at right_x 16 tt n l)),
      rw (← d, ← m) (eqb→eq _ _ (at right_y 16 tt n l)),
    )

module _ (cols : ℕ) (h : Head) (levels : List ℤ) (pic : List ℕ) where
  one_block : (n q b x y : ℕ) (t : Bool) → q < 4 → b < 4 → n ≡ 4 * q + b → quadrant_coded h.pattern q ≡ t
      → x ≡ 16 * h.column + 8 * (q % 2) + 4 * (b % 2) → y ≡ 16 * h.row + 8 * (q / 2) + 4 * (b / 2)
      → luma_up_to (suc n) cols h levels pic ≡ (when t then added (luma_up_to n cols h levels pic) (16 * cols) x y (luma_residual h.quantiser levels (64 * q + 16 * b)) else luma_up_to n cols h levels pic)
  unfolding luma_up_to luma_residual
  one_block n q b x y t hq hb e coded ex ey =
      let l : n < 16 = omega arith in
      let d : n / 4 ≡ q = omega arith in
      let c = cell-of n q b hq hb e in
      let tested : item_coded h.pattern n ≡ t = (is-luma n l).coded h.pattern ∙ ap (quadrant_coded h.pattern) d ∙ coded in
      let xs : 16 * h.column + 4 * (cell_of_block n % 4) ≡ x = omega (arith, c.0) in
      let ys : 16 * h.row + 4 * (cell_of_block n / 4) ≡ y = omega (arith, c.1) in
      let from : item_place n ≡ 64 * q + 16 * b = (is-luma n l).place ∙ omega arith in
      (λ i. when tested i then added (luma_up_to n cols h levels pic) (16 * cols) (xs i) (ys i) (residual (dequant_coeff h.quantiser) (pos 0) (placed levels (from i))) else luma_up_to n cols h levels pic)

  -- the four blocks of a quadrant
  four-blocks : (n q : ℕ) (t : Bool) → q < 4 → n ≡ 4 * q → quadrant_coded h.pattern q ≡ t
      → luma_up_to (suc (suc (suc (suc n)))) cols h levels pic
      ≡ (when t then added_four (luma_up_to n cols h levels pic) (16 * cols) (16 * h.column + 8 * (q % 2)) (16 * h.row + 8 * (q / 2)) (λ b. luma_residual h.quantiser levels (64 * q + 16 * b)) else luma_up_to n cols h levels pic)
  unfolding when◌then◌else◌
  four-blocks n q true hq e coded =
      four-added (λ b. luma_residual h.quantiser levels (64 * q + 16 * b)) (16 * cols) (16 * h.column + 8 * (q % 2)) (16 * h.row + 8 * (q / 2)) (luma_up_to n cols h levels pic)
      (one_block n q 0 (16 * h.column + 8 * (q % 2)) (16 * h.row + 8 * (q / 2)) true hq (lit< tt) (omega arith) coded (omega arith) (omega arith))
      (one_block (suc n) q 1 (16 * h.column + 8 * (q % 2) + 4) (16 * h.row + 8 * (q / 2)) true hq (lit< tt) (omega arith) coded (omega arith) (omega arith))
      (one_block (suc (suc n)) q 2 (16 * h.column + 8 * (q % 2)) (16 * h.row + 8 * (q / 2) + 4) true hq (lit< tt) (omega arith) coded (omega arith) (omega arith))
      (one_block (suc (suc (suc n))) q 3 (16 * h.column + 8 * (q % 2) + 4) (16 * h.row + 8 * (q / 2) + 4) true hq (lit< tt) (omega arith) coded (omega arith) (omega arith))
  four-blocks n q false hq e coded =
      one_block (suc (suc (suc n))) q 3 (16 * h.column + 8 * (q % 2) + 4) (16 * h.row + 8 * (q / 2) + 4) false hq (lit< tt) (omega arith) coded (omega arith) (omega arith)
      ∙ one_block (suc (suc n)) q 2 (16 * h.column + 8 * (q % 2)) (16 * h.row + 8 * (q / 2) + 4) false hq (lit< tt) (omega arith) coded (omega arith) (omega arith)
      ∙ one_block (suc n) q 1 (16 * h.column + 8 * (q % 2) + 4) (16 * h.row + 8 * (q / 2)) false hq (lit< tt) (omega arith) coded (omega arith) (omega arith)
      ∙ one_block n q 0 (16 * h.column + 8 * (q % 2)) (16 * h.row + 8 * (q / 2)) false hq (lit< tt) (omega arith) coded (omega arith) (omega arith)

  -- the loop over quadrants: before it, and a turn
  pub no-quadrant : pic ≡ luma_up_to (4 * 0) cols h levels pic
  unfolding luma_up_to
  no-quadrant = refl

  pub one-quadrant : (q : ℕ) {p p' : List ℕ} → q < 4 → p ≡ luma_up_to (4 * q) cols h levels pic → p' ≡ quadrant_added q cols h levels p → p' ≡ luma_up_to (4 * (q + 1)) cols h levels pic
  unfolding quadrant_added
  one-quadrant q l e f =
      let n : suc (suc (suc (suc (4 * q)))) ≡ 4 * (q + 1) = omega arith in
      f ∙ ap (quadrant_added q cols h levels) e ∙ sym (four-blocks (4 * q) q _ l refl refl) ∙ ap (λ (m : ℕ). luma_up_to m cols h levels pic) n

-- ---- chroma
module _ (plane cols : ℕ) (h : Head) (levels : List ℤ) (pic : List ℕ) (few : plane < 2) where
  one-chroma : (n x y : ℕ) → n < 4 → x ≡ 8 * h.column + 4 * (n % 2) → y ≡ 8 * h.row + 4 * (n / 2)
      → chroma_up_to (suc n) plane cols h levels pic ≡ added (chroma_up_to n plane cols h levels pic) (8 * cols) x y (chroma_residual h.quantiser (get_or (chroma_dc (chroma_coeff h.quantiser) levels (256 + 4 * plane)) n (pos 0)) levels (264 + 64 * plane + 16 * n))
  unfolding chroma_up_to chroma_residual dc_of
  one-chroma n x y l ex ey =
      let dc : item_place (16 + plane) ≡ 256 + 4 * plane = (is-dc (16 + plane) (omega arith) (omega arith)).place ∙ omega arith in
      let ac : item_place (18 + 4 * plane + n) ≡ 264 + 64 * plane + 16 * n = (is-ac (18 + 4 * plane + n) (omega arith)).place ∙ omega arith in
      (λ i. added (chroma_up_to n plane cols h levels pic) (8 * cols) (sym ex i) (sym ey i) (residual (chroma_coeff h.quantiser) (get_or (chroma_dc (chroma_coeff h.quantiser) levels (dc i)) n (pos 0)) (placed levels (ac i))))

  pub four-chroma : chroma_up_to 4 plane cols h levels pic ≡ square_added plane (8 * cols) (8 * h.column) (8 * h.row) h.quantiser levels pic
  unfolding square_added chroma_up_to
  four-chroma =
      four-added (λ b. chroma_residual h.quantiser (get_or (chroma_dc (chroma_coeff h.quantiser) levels (256 + 4 * plane)) b (pos 0)) levels (264 + 64 * plane + 16 * b)) (8 * cols) (8 * h.column) (8 * h.row) (chroma_up_to 0 plane cols h levels pic)
      (one-chroma 0 (8 * h.column) (8 * h.row) (lit< tt) (omega arith) (omega arith))
      (one-chroma 1 (8 * h.column + 4) (8 * h.row) (lit< tt) (omega arith) (omega arith))
      (one-chroma 2 (8 * h.column) (8 * h.row + 4) (lit< tt) (omega arith) (omega arith))
      (one-chroma 3 (8 * h.column + 4) (8 * h.row + 4) (lit< tt) (omega arith) (omega arith))

-- a list that is not coded has no levels
pub no-ac : (pattern plane : ℕ) (levels : List ℤ) → ListsRange ItemRange pattern levels → plane < 2 → eqb (class_of pattern) 2 ≡ false → (n : ℕ) → n < 64 → get_or levels (264 + 64 * plane + n) (pos 0) ≡ pos 0
unfolding item_levels
no-ac pattern plane levels r few e n l =
    let i = 18 + 4 * plane + n / 16 in
    let k = is-ac i (omega arith) in
    let none = r.others i (omega arith) (k.coded pattern ∙ e) in
    let place : item_place i + n % 16 ≡ 264 + 64 * plane + n = ap (λ (p : ℕ). p + n % 16) k.place ∙ omega arith in
    let z : get_or (take (item_count i) (drop (item_place i) levels)) (n % 16) (pos 0) ≡ pos 0 = ap (λ (xs : List ℤ). get_or xs (n % 16) (pos 0)) none ∙ get_or-replicate (item_count i) (n % 16) (pos 0) (pos 0) (omega (arith, k.count)) in
    ap (λ (p : ℕ). get_or levels p (pos 0)) (sym place)
    ∙ sym (get_or-drop (item_place i) levels (n % 16) (pos 0))
    ∙ sym (get_or-take (item_count i) (drop (item_place i) levels) (n % 16) (pos 0) (omega (arith, k.count)))
    ∙ z

-- a residual depends on the sixteen levels alone
module _ (scale : ℕ) (dc : ℤ) {x y : ℕ → ℕ → ℤ} (same : (r c : ℕ) → r < 4 → c < 4 → x r c ≡ y r c) where
  same_row : (r : ℕ) → r < 4 → rows_of (scaled scale x) r ≡ rows_of (scaled scale y) r
  unfolding rows_of scaled
  same_row r l = λ i c. weighed c (sat_z (same r 0 l (lit< tt) i *ℤ pos scale)) (sat_z (same r 1 l (lit< tt) i *ℤ pos scale)) (sat_z (same r 2 l (lit< tt) i *ℤ pos scale)) (sat_z (same r 3 l (lit< tt) i *ℤ pos scale))

  same-residual : residual scale dc x ≡ residual scale dc y
  unfolding residual columns_of
  same-residual = λ i r c. rounded (weighed r (same_row 0 (lit< tt) i c) (same_row 1 (lit< tt) i c) (same_row 2 (lit< tt) i c) (same_row 3 (lit< tt) i c)) dc

-- so a square without AC levels has DC alone
pub dc-square : (plane stride x y q : ℕ) (levels dc : List ℤ) (pic : List ℕ) → ((n : ℕ) → n < 64 → get_or levels (264 + 64 * plane + n) (pos 0) ≡ pos 0) → dc ≡ chroma_dc (chroma_coeff q) levels (256 + 4 * plane)
    → added_four pic stride x y (λ b. residual (chroma_coeff q) (get_or dc b (pos 0)) no_levels) ≡ square_added plane stride x y q levels pic
unfolding square_added added_four chroma_residual placed no_levels
dc-square plane stride x y q levels dc pic none e =
    (λ i. added (added (added (added pic stride x y (block 0 (lit< tt) i)) stride (x + 4) y (block 1 (lit< tt) i)) stride x (y + 4) (block 2 (lit< tt) i)) stride (x + 4) (y + 4) (block 3 (lit< tt) i))
  where
    empty : (b : ℕ) → b < 4 → (r c : ℕ) → r < 4 → c < 4 → no_levels r c ≡ placed levels (264 + 64 * plane + 16 * b) r c
    empty b l r c lr lc = sym (at_place b r c ∙ none (16 * b + (4 * r + c)) (omega arith))
      where
        at_place : (b r c : ℕ) → placed levels (264 + 64 * plane + 16 * b) r c ≡ get_or levels (264 + 64 * plane + (16 * b + (4 * r + c))) (pos 0)
        at_place b r c = let k : 264 + 64 * plane + 16 * b + (4 * r + c) ≡ 264 + 64 * plane + (16 * b + (4 * r + c)) = omega arith in ap (λ (p : ℕ). get_or levels p (pos 0)) k

    block : (b : ℕ) → b < 4 → residual (chroma_coeff q) (get_or dc b (pos 0)) no_levels ≡ residual (chroma_coeff q) (get_or (chroma_dc (chroma_coeff q) levels (256 + 4 * plane)) b (pos 0)) (placed levels (264 + 64 * plane + 16 * b))
    block b l = same-residual (chroma_coeff q) (get_or dc b (pos 0)) (empty b l) ∙ ap (λ (d : List ℤ). residual (chroma_coeff q) (get_or d b (pos 0)) (placed levels (264 + 64 * plane + 16 * b))) e

-- the levels from place n on, as many as there are
pub all-levels : {A : Type 0} (f : List ℤ → A) (n : ℕ) (l : List ℤ) → length l ≡ 392 → f (take (392 - n) (drop n l)) ≡ f (take (length l - n) (drop n l))
all-levels f n l e = ap (λ (k : ℕ). f (take (k - n) (drop n l))) (sym e)
