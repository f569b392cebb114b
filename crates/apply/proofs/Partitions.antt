-- A partition lies in its macroblock, and so in the plane.
-- Assumes nothing.
use mathlib.Core.Path.{◌≡◌, refl, ap, ◌∙◌}
use mathlib.Core.Bool.{Bool, true, false}
use mathlib.Core.List.{List}
use Prim.Native.Nat.{ℕ, zero, suc, ◌+◌, ◌*◌, ◌/◌, ◌≤◌, ◌<◌}
use native.Mathlib.Nat.{mul-le-mul_right, le_trans, mul_assoc, mul_left_comm, div-one}
use native.Mathlib.Numerals.{add-one}
use native.Mathlib.Omega.{arith}
use lib.Dec.{lit≤, lit<}
use lib.IntN.{ℤ, pos, negsuc, ◌+ℤ◌}
use lib.ListN.{length}
use Rattle.ints.specs.Z.{toward_zero, floor_z, mod_z}
use Rattle.picture.specs.Painted.{Inside}
use Rattle.picture.specs.InnerBlock.{BlockIn, block_painted}
use Rattle.picture.specs.declared.Block.{Block}
use Rattle.picture.specs.InnerPicture.{Within}
use Rattle.picture.proofs.Laws.{macroblock-inside, painted-length}
use Rattle.compensation.specs.Formula.{formula}
use Rattle.compensation.specs.InnerKernel.{origin_of, window_block}
use Rattle.compensation.specs.InnerBlock.{Whole, Span}
use Rattle.compensation.specs.InnerTaps as taps
use Rattle.compensation.proofs.Taps.{placed-block}
use Rattle.vectors.specs.Modes.{partition_width, partition_height, num_motion_vectors, offset_x, offset_y}
use Rattle.vectors.proofs.Partitions.{cut, inside, inside-units}
use Rattle.state.specs.declared.Call.{Call}
use Rattle.apply.specs.Moved.{unit, part_x, part_y, vector_x, vector_y, moved_block, moved_once, moved_up_to}
use Rattle.apply.specs.InnerMoved.{plane_length, part_block}

-- a rectangle inside another
sub-inside : {st x y W H size : ℕ} (a b w h : ℕ) → Inside st x y W H size → a + w ≤ W → b + h ≤ H → Inside st (x + a) (y + b) w h size
sub-inside {st} {x} {y} {W} {H} {size} a b w h i p q =
    let d : (y + b + h) * st ≤ (y + H) * st = mul-le-mul_right st (omega arith) in
    record { some = i.some; across = omega (arith, i.across); down = le_trans d i.down }

-- a whole vector is what luma has of it
pub toward-one : (z : ℤ) → toward_zero z 1 ≡ z
toward-one (pos a) = ap pos (div-one a)
toward-one (negsuc a) = rw (div-one (suc a))

-- n samples of a macroblock each way make a plane
plane-whole : (n : ℕ) {cols rows column row : ℕ} → 0 < n → n ≤ 16 → Within cols rows column row → Whole (n * cols) (n * rows) (n * n * (cols * rows))
plane-whole n {cols} {rows} z m g =
    let w : n * cols ≤ 16 * cols = mul-le-mul_right cols m in
    let h : n * rows ≤ 16 * rows = mul-le-mul_right rows m in
    let w' : 1 * cols ≤ n * cols = mul-le-mul_right cols z in
    let h' : 1 * rows ≤ n * rows = mul-le-mul_right rows z in
    record {
      columns = (omega (arith, g.across), omega (arith, g.wide));
      lines = (omega (arith, g.down), omega (arith, g.high));
      all = rw (mul_assoc n cols (n * rows), mul_left_comm cols n rows, mul_assoc n n (cols * rows));
    }

-- in units of 1 or 2 samples
halves : (chroma : Bool) (m o : ℕ) → (16 * m + o) / unit chroma ≡ 16 / unit chroma * m + o / unit chroma
halves true m o = omega arith
halves false m o = omega (arith, div-one (16 * m + o), div-one o)

side : (chroma : Bool) → (0 < 16 / unit chroma) × (16 / unit chroma ≤ 16)
side true = (lit< tt, lit≤ tt)
side false = (lit< tt, lit≤ tt)

module _ (cols rows : ℕ) (call : Call) (i : ℕ) (g : Within cols rows call.column call.row) (mode : call.mode ≤ 7) (among : i < num_motion_vectors call.mode) where
  -- the partition in the macroblock
  part : (chroma : Bool) → (offset_x call.mode i / unit chroma + partition_width call.mode / unit chroma ≤ 16 / unit chroma) × (offset_y call.mode i / unit chroma + partition_height call.mode / unit chroma ≤ 16 / unit chroma)
  part true = inside-units 1 call.mode i (lit≤ tt) mode among
  part false = inside-units 0 call.mode i (lit≤ tt) mode among

  part-inside : (chroma : Bool) → Inside (16 / unit chroma * cols) (part_x (unit chroma) call i) (part_y (unit chroma) call i) (partition_width call.mode / unit chroma) (partition_height call.mode / unit chroma) (plane_length (unit chroma) cols rows)
  unfolding part_x part_y
  part-inside chroma =
      rw (halves chroma call.column (offset_x call.mode i), halves chroma call.row (offset_y call.mode i))
      (sub-inside _ _ _ _ (macroblock-inside (16 / unit chroma) (side chroma).0 g.across g.down) (part chroma).0 (part chroma).1)

  part-span : (chroma : Bool) → Span (partition_width call.mode / unit chroma) (partition_height call.mode / unit chroma)
  part-span true = let k = cut 1 call.mode (lit≤ tt) mode in record { across = (k.wide, omega (arith, (part true).0)); down = (k.high, omega (arith, (part true).1)) }
  part-span false = let k = cut 0 call.mode (lit≤ tt) mode in record { across = (k.wide, omega (arith, (part false).0)); down = (k.high, omega (arith, (part false).1)) }

  -- a place of a plane fits 17 bits
  part_small : (chroma : Bool) → (part_x (unit chroma) call i < 131072) × (part_y (unit chroma) call i < 131072)
  unfolding part_x part_y
  part_small true = let p = inside call.mode i mode among in (omega (arith, g.across, g.wide), omega (arith, g.down, g.high))
  part_small false = let p = inside call.mode i mode among in (omega (arith, g.across, g.wide, div-one (16 * call.column + offset_x call.mode i)), omega (arith, g.down, g.high, div-one (16 * call.row + offset_y call.mode i)))

-- a partition's block, in a plane of `height` rows
module _ (chroma : Bool) (call : Call) (i cols rows : ℕ) {height : ℕ} {b : Block} (p : b ≡ part_block (unit chroma) cols call i) (q : height ≡ 16 / unit chroma * rows) where
  -- what it allows
  pub ready : {size other : ℕ} → Within cols rows call.column call.row → call.mode ≤ 7 → i < num_motion_vectors call.mode
      → size ≡ plane_length (unit chroma) cols rows → other ≡ plane_length (unit chroma) cols rows
      → Span b.w b.h × BlockIn b size × Whole b.stride height other × (b.x < 131072) × (b.y < 131072)
  ready g m l e f =
      let s = part_small cols rows call i g m l chroma in
      rw (e, f, p, q)
      (part-span cols rows call i g m l chroma, part-inside cols rows call i g m l chroma, plane-whole (16 / unit chroma) (side chroma).0 (side chroma).1 g, s.0, s.1)

  -- what compensation by its taps left is the definition's plane
  pub moved : (ref : List ℕ) (vs : List ℤ) (pic : List ℕ) {pic' : List ℕ} {ox oy : ℤ} {px py : ℕ} → Span b.w b.h
      → taps.Placed (pos b.x) (pos b.y) (toward_zero (vector_x vs i) (unit chroma)) (toward_zero (vector_y vs i) (unit chroma)) ox oy px py
      → pic' ≡ block_painted b (window_block (formula px py) ref b.stride height (origin_of b.stride ox) (origin_of height oy)) pic
      → pic' ≡ moved_once (unit chroma) cols rows ref call vs i pic
  unfolding moved_once moved_block
  moved ref vs pic s t r = r ∙ placed-block ref b.stride height t b.stride b.x b.y b.w b.h pic s ∙ rw (p, q)

-- taps of the same block
pub placed-as : {px py : ℕ} {x y vx vy ox oy x' y' vx' vy' : ℤ} → taps.Placed x y vx vy ox oy px py → x ≡ x' → y ≡ y' → vx ≡ vx' → vy ≡ vy' → taps.Placed x' y' vx' vy' ox oy px py
placed-as p ex ey evx evy = record {
  across_phase = p.across_phase ∙ ap (λ z. mod_z z 6) evx;
  down_phase = p.down_phase ∙ ap (λ z. mod_z z 6) evy;
  across = p.across ∙ (λ i. ex i +ℤ floor_z (evx i) 6);
  down = p.down ∙ (λ i. ey i +ℤ floor_z (evy i) 6);
}

-- at most 16 samples a macroblock
pub few : (chroma : Bool) (n m : ℕ) → n ≡ 16 / unit chroma → m ≤ 4096 → n * m ≤ 65536
few chroma n m e h = let k : n * m ≤ 16 * m = mul-le-mul_right m (omega (arith, (side chroma).1)) in omega arith

-- the plane keeps its length
moved_length : (u cols rows : ℕ) (ref : List ℕ) (call : Call) (vs : List ℤ) (i : ℕ) (pic : List ℕ) → length (moved_once u cols rows ref call vs i pic) ≡ length pic
unfolding moved_once
moved_length u cols rows ref call vs i pic = painted-length _ _ _ _ _ _ pic

pub moved-all-length : (n u cols rows : ℕ) (ref : List ℕ) (call : Call) (vs : List ℤ) (pic : List ℕ) → length (moved_up_to n u cols rows ref call vs pic) ≡ length pic
unfolding moved_up_to
moved-all-length zero u cols rows ref call vs pic = refl
moved-all-length (suc n) u cols rows ref call vs pic = moved_length u cols rows ref call vs n _ ∙ moved-all-length n u cols rows ref call vs pic

-- one partition more
pub moved_more : (n u cols rows : ℕ) (ref : List ℕ) (call : Call) (vs : List ℤ) (pic : List ℕ) {l l' : List ℕ} → l ≡ moved_up_to n u cols rows ref call vs pic → l' ≡ moved_once u cols rows ref call vs n l → l' ≡ moved_up_to (n + 1) u cols rows ref call vs pic
unfolding moved_up_to
moved_more n u cols rows ref call vs pic e f = rw (add-one n) (f ∙ ap (λ (l : List ℕ). moved_once u cols rows ref call vs n l) e)
