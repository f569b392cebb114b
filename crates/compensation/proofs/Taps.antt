-- The taps of a block: counted from -17 they are those of the endless plane, and a block whose taps all lie inside reads them straight from the plane.
-- Assumes nothing.
use mathlib.Core.Path.{◌≡◌, refl, sym, ap, ◌∙◌}
use mathlib.Core.List.{List}
use mathlib.Core.Logic.{◌⊎◌, inl, inr, ⊎_elim}
use Prim.Native.Nat.{ℕ, zero, suc, ◌+◌, ◌-◌, ◌*◌, ◌≤◌, ◌<◌, min}
use native.Mathlib.Nat.{add-mul, mul_comm, zero-add}
use native.Mathlib.Omega.{arith}
use borrow.Author.Tests.{ne_eqb}
use mathlib.Core.Bool.{true}
use lib.IntN.{ℤ, pos, negsuc, nat_abs, ◌+ℤ◌, ◌-ℤ◌}
use lib.Signed.{pos-nat_abs, le_z}
use lib.ListN.{length, get_or, replicate}
use Rattle.picture.specs.Painted.{painted}
use Rattle.picture.specs.InnerRows.{row}
use Rattle.picture.proofs.Laws.{more, row_same, painted-values, both_true}
use Rattle.std.specs.Int.{int_max, int_min}
use Rattle.std.proofs.lemmas.Int.{int_max_is, int_min_is}
use Rattle.ints.specs.Z.{when◌then◌else◌, clamp_z, floor_z, mod_z}
use mir.Syntax.{w64}
use mir.Facts.{to_z-of_z}
use Rattle.ints.proofs.Fits.{read, sub-ind, clamp-ind}
use Rattle.std.proofs.lemmas.Int.{ints}
use Rattle.ints.proofs.Laws.{clamp-low, floor-shift}
use Rattle.compensation.specs.Sample.{nearest, tap, sample_at, sixths, block_sample}
use Rattle.compensation.specs.Formula.{along, formula}
use Rattle.compensation.specs.InnerBlock.{Whole, Span}
use Rattle.compensation.specs.InnerTaps.{Placed, TapsIn, lies_in}
use Rattle.compensation.specs.declared.svq3_mc.Taps.{Taps}
use Rattle.compensation.proofs.Sides.{line_small}
use Rattle.compensation.specs.InnerKernel.{origin_of, near, near_from, line_at, window_at, window_block, four_at, four_row, four_block, extra}

-- ---- places before and past a line of n
module _ (n : ℕ) where
  nearest-pos : (a : ℕ) → nearest n (pos a) ≡ min a (n - 1)
  unfolding nearest
  nearest-pos a =
      clamp-ind (λ v. nat_abs v ≡ min a (n - 1)) (pos 0) (pos (n - 1)) (pos a)
      (λ e. omega (arith, ints))
      (λ e f. omega (arith, ints))
      (λ e f. omega (arith, ints))

  nearest-neg : (a : ℕ) → nearest n (negsuc a) ≡ 0
  unfolding nearest clamp_z when◌then◌else◌
  nearest-neg a = refl

  origin-pos : (a : ℕ) → origin_of n (pos a) ≡ min a (n - 1) + 17
  unfolding origin_of
  origin-pos a =
      clamp-ind (λ v. nat_abs (v +ℤ pos 17) ≡ min a (n - 1) + 17) (negsuc 16) (pos (n - 1)) (pos a)
      (λ e. absurd (omega (arith, ints)))
      (λ e f. omega (arith, ints))
      (λ e f. omega (arith, ints))

  origin-neg : (a : ℕ) → origin_of n (negsuc a) ≡ 16 - a
  unfolding origin_of
  origin-neg a =
      clamp-ind (λ v. nat_abs (v +ℤ pos 17) ≡ 16 - a) (negsuc 16) (pos (n - 1)) (negsuc a)
      (λ e. omega (arith, ints))
      (λ e f. absurd (omega (arith, ints)))
      (λ e f. omega (arith, ints))

  -- held by the library's methods
  pub held-std : (z : ℤ) → int_max (negsuc 16) (int_min z (pos (n - 1))) ≡ clamp_z (negsuc 16) (pos (n - 1)) z
  held-std z =
      let lo = negsuc 16 in
      let hi = pos (n - 1) in
      clamp-ind (λ v. int_max lo (int_min z hi) ≡ v) lo hi z
      (λ e. omega (arith, ints, int_max_is lo (int_min z hi), int_min_is z hi))
      (λ e f. omega (arith, ints, int_max_is lo (int_min z hi), int_min_is z hi))
      (λ e f. omega (arith, ints, int_max_is lo (int_min z hi), int_min_is z hi))

  -- it is never below 0
  pub origin-back : (z : ℤ) → clamp_z (negsuc 16) (pos (n - 1)) z +ℤ pos 17 ≡ pos (origin_of n z)
  unfolding origin_of
  origin-back z =
      let held = clamp_z (negsuc 16) (pos (n - 1)) z in
      sym (pos-nat_abs (held +ℤ pos 17) (omega (arith, ints, clamp-low (negsuc 16) (pos (n - 1)) z refl)))

  pub origin-le : (z : ℤ) → 0 < n → origin_of n z ≤ n + 16
  origin-le (pos a) h = omega (arith, origin-pos a)
  origin-le (negsuc a) h = omega (arith, origin-neg a)

  -- no tap of a block of at most 16 can tell that its place was held
  near-place : (z : ℤ) (c : ℕ) → c ≤ 16 → near n (origin_of n z + c) ≡ nearest n (z +ℤ pos c)
  unfolding near
  near-place (pos a) c k = omega (arith, origin-pos a, nearest-pos (a + c))
  near-place (negsuc a) c k =
      sub-ind (λ v. min (origin_of n (negsuc a) + c - 17) (n - 1) ≡ nearest n v) c (suc a)
      (λ m e. omega (arith, origin-neg a, nearest-neg m))
      (λ m e. omega (arith, origin-neg a, nearest-pos m))

-- ---- one axis: sample c of a block at x with the vector's part v
module _ (n : ℕ) (x v : ℤ) (c : ℕ) where
  phase : mod_z v 6 ≡ mod_z (sixths (x +ℤ pos c) v) 6
  phase = sym (floor-shift 6 (x +ℤ pos c) v (omega arith)).1

  whole : (x +ℤ floor_z v 6) +ℤ pos c ≡ floor_z (sixths (x +ℤ pos c) v) 6
  whole =
      let e = (floor-shift 6 (x +ℤ pos c) v (omega arith)).0 in
      let d : (x +ℤ floor_z v 6) +ℤ pos c ≡ (x +ℤ pos c) +ℤ floor_z v 6 = omega (arith, ints) in
      d ∙ sym e

  first : c < 16 → near n (origin_of n (x +ℤ floor_z v 6) + c) ≡ nearest n (floor_z (sixths (x +ℤ pos c) v) 6)
  first k = near-place n (x +ℤ floor_z v 6) c (omega arith) ∙ ap (nearest n) whole

  second : c < 16 → near n (origin_of n (x +ℤ floor_z v 6) + (c + 1)) ≡ nearest n (floor_z (sixths (x +ℤ pos c) v) 6 +ℤ pos 1)
  second k =
      let d : (x +ℤ floor_z v 6) +ℤ pos (c + 1) ≡ ((x +ℤ floor_z v 6) +ℤ pos c) +ℤ pos 1 = omega (arith, ints) in
      near-place n (x +ℤ floor_z v 6) (c + 1) (omega arith) ∙ ap (nearest n) (d ∙ ap (λ (u : ℤ). u +ℤ pos 1) whole)

-- the window's sample is the block's
window-sample : (plane : List ℕ) (width height : ℕ) (x y vx vy : ℤ) (r c : ℕ) → r < 16 → c < 16 → window_block (formula (mod_z vx 6) (mod_z vy 6)) plane width height (origin_of width (x +ℤ floor_z vx 6)) (origin_of height (y +ℤ floor_z vy 6)) r c ≡ block_sample plane width height x y vx vy r c
unfolding window_block window_at line_at block_sample sample_at tap
window-sample plane width height x y vx vy r c lr lc =
    let at : ℕ → ℕ → ℕ = λ b a. get_or plane (b * width + a) 0 in
    let a = first width x vx c lc in
    let a' = second width x vx c lc in
    let b = first height y vy r lr in
    let b' = second height y vy r lr in
    λ i. formula (phase width x vx c i) (phase height y vy r i) (at (b i) (a i)) (at (b i) (a' i)) (at (b' i) (a i)) (at (b' i) (a' i))

placed-sample : (plane : List ℕ) (width height : ℕ) {x y vx vy ox oy : ℤ} {px py : ℕ} → Placed x y vx vy ox oy px py → (r c : ℕ) → r < 16 → c < 16 → window_block (formula px py) plane width height (origin_of width ox) (origin_of height oy) r c ≡ block_sample plane width height x y vx vy r c
placed-sample plane width height {x} {y} {vx} {vy} p r c lr lc = rw (p.across_phase, p.down_phase, p.across, p.down) (window-sample plane width height x y vx vy r c lr lc)

pub placed-block : (plane : List ℕ) (width height : ℕ) {x y vx vy ox oy : ℤ} {px py : ℕ} → Placed x y vx vy ox oy px py → (stride dx dy w h : ℕ) (l : List ℕ) → Span w h
    → painted stride dx dy w h (window_block (formula px py) plane width height (origin_of width ox) (origin_of height oy)) l ≡ painted stride dx dy w h (block_sample plane width height x y vx vy) l
placed-block plane width height p stride dx dy w h l s = painted-values stride dx dy w h _ _ l (λ r c lr lc. placed-sample plane width height p r c (omega arith) (omega arith))

-- ---- whole samples alone read one tap each
pub extra-none : extra 0 0 ≡ 0
unfolding extra when◌then◌else◌
extra-none = refl

pub extra-down : (py : ℕ) → (py ≡ 0 → ⊥) → extra 0 py ≡ 1
unfolding extra when◌then◌else◌
extra-down py h = rw (ne_eqb py 0 h)

pub extra-across : (px py : ℕ) → (px ≡ 0 → ⊥) → extra px py ≡ 1
unfolding extra when◌then◌else◌
extra-across px py h = rw (ne_eqb px 0 h)

extra-or : (px py : ℕ) → ((px ≡ 0) × (py ≡ 0)) ⊎ (extra px py ≡ 1)
extra-or zero zero = inl (refl, refl)
extra-or zero (suc py) = inr (extra-down (suc py) (λ e. omega arith))
extra-or (suc px) py = inr (extra-across (suc px) py (λ e. omega arith))

pub extra-le : (px py : ℕ) → extra px py ≤ 1
extra-le px py = ⊎_elim (λ z. rw (z.0, z.1, extra-none) (omega arith)) (λ o. omega arith) (extra-or px py)

pub extra-zero : (px py : ℕ) → extra px py ≡ 0 → (px ≡ 0) × (py ≡ 0)
extra-zero px py e = ⊎_elim (λ z. z) (λ o. absurd (omega arith)) (extra-or px py)

-- ---- the taps as they are gathered: the columns are listed once
columns-at : (width bx k : ℕ) → k < 17 → get_or (row (replicate 17 0) 0 (near_from width bx) 17) k 0 ≡ near width (bx + k)
unfolding near_from
columns-at width bx k h = rw zero-add at (row_same (replicate 17 0) 0 (near_from width bx) 17 k 0 h (omega arith))

near-below : (n i : ℕ) → 0 < n → near n i < n
unfolding near
near-below n i h = omega arith

module _ (width bx : ℕ) {columns : List ℕ} (is : columns ≡ row (replicate 17 0) 0 (near_from width bx) 17) where
  pub column-is : (k : ℕ) → k < 17 → get_or columns k 0 ≡ near width (bx + k)
  column-is k h = rw is (columns-at width bx k h)

  pub column-below : 0 < width → (k : ℕ) → k < 17 → get_or columns k 0 < width
  column-below some k h = rw (column-is k h) (near-below width (bx + k) some)

-- ---- a source that holds the taps t
pub four-taps : (f : ℕ → ℕ → ℕ → ℕ → ℕ) (src : List ℕ) (stride from : ℕ) (t : ℕ → ℕ → ℕ) (r c : ℕ) → ((r' c' : ℕ) → r' ≤ r + 1 → c' ≤ c + 1 → get_or src (from + r' * stride + c') 0 ≡ t r' c')
    → four_block f src stride from r c ≡ f (t r c) (t r (c + 1)) (t (r + 1) c) (t (r + 1) (c + 1))
unfolding four_block four_row four_at
four-taps f src stride from t r c e =
    let m : (r + 1) * stride ≡ r * stride + stride = omega (arith, add-mul r 1 stride) in
    let s : ℕ → ℕ = λ i. get_or src i 0 in
    let right : from + r * stride + c + 1 ≡ from + r * stride + (c + 1) = omega arith in
    let below : from + r * stride + c + stride ≡ from + (r + 1) * stride + c = omega arith in
    let across : from + r * stride + c + 1 + stride ≡ from + (r + 1) * stride + (c + 1) = omega arith in
    let s00 = e r c (omega arith) (omega arith) in
    let s10 = ap s right ∙ e r (c + 1) (omega arith) (omega arith) in
    let s01 = ap s below ∙ e (r + 1) c (omega arith) (omega arith) in
    let s11 = ap s across ∙ e (r + 1) (c + 1) (omega arith) (omega arith) in
    λ i. f (s00 i) (s10 i) (s01 i) (s11 i)

-- ---- the plane itself
module _ (plane : List ℕ) (width height a b : ℕ) where
  inside-tap : (r c : ℕ) → b + r < height → a + c < width → get_or plane (b * width + a + r * width + c) 0 ≡ window_at plane width height (a + 17) (b + 17) r c
  unfolding window_at line_at near
  inside-tap r c lr lc =
      let e : min (a + 17 + c - 17) (width - 1) ≡ a + c = omega arith in
      let f : min (b + 17 + r - 17) (height - 1) ≡ b + r = omega arith in
      let i : b * width + a + r * width + c ≡ (b + r) * width + (a + c) = omega (arith, add-mul b r width) in
      rw (e, f, i)

  -- the last tap is there
  inside-room : (w h e : ℕ) → Whole width height (length plane) → 0 < h → b + (h + e) ≤ height → a + (w + e) ≤ width → b * width + a + (h - 1 + e) * width + w + e ≤ length plane
  inside-room w h e full some k k' =
      let last : (b + (h - 1 + e)) * width + width ≤ height * width = more width (omega arith) in
      omega (arith, add-mul b (h - 1 + e) width, mul_comm height width)

  -- no phase: one tap a sample
  inside-whole : (r c : ℕ) → b + r < height → a + c < width → four_block (formula 0 0) plane width (b * width + a) r c ≡ window_block (formula 0 0) plane width height (a + 17) (b + 17) r c
  unfolding four_block four_row four_at window_block formula along when◌then◌else◌
  inside-whole r c lr lc = inside-tap r c lr lc

  inside-sample : (px py r c w h : ℕ) → b + (h + extra px py) ≤ height → a + (w + extra px py) ≤ width → r < h → c < w
      → four_block (formula px py) plane width (b * width + a) r c ≡ window_block (formula px py) plane width height (a + 17) (b + 17) r c
  unfolding window_block
  inside-sample px py r c w h k k' lr lc =
      ⊎_elim
      (λ e. rw (e.0, e.1) (inside-whole r c (omega arith) (omega arith)))
      (λ e. four-taps (formula px py) plane width (b * width + a) (window_at plane width height (a + 17) (b + 17)) r c (λ r' c' l l'. inside-tap r' c' (omega arith) (omega arith)))
      (extra-or px py)

-- ---- a place that lies in a line, as the machine reads it
module _ (o : ℤ) (n side : ℕ) (small : side ≤ 65536) (e : lies_in o n side ≡ true) where
  abbrev placed_at : ℕ
  placed_at = nat_abs (read w64 o)

  one : (o ≡ pos (nat_abs o)) × (nat_abs o + n ≤ side)
  unfolding lies_in
  one =
      let p = both_true (le_z (pos 0) o) (le_z o (pos side -ℤ pos n)) e in
      (omega (arith, ints, p.0), omega (arith, ints, p.0, p.1))

  same : read w64 o ≡ o
  same = to_z-of_z {w = w64} (record { sfits = rw one.0 (omega (arith, one.1)) })

  lies-read : read w64 o ≡ pos placed_at
  lies-read = same ∙ one.0 ∙ ap (λ (z : ℤ). pos (nat_abs z)) (sym same)

  lies-room : placed_at + n ≤ side
  lies-room = rw same one.1

  -- it is not held
  lies-origin : 0 < n → origin_of side o ≡ placed_at + 17
  lies-origin some = ap (origin_of side) (sym same ∙ lies-read) ∙ origin-pos side placed_at ∙ omega (arith, lies-room)

-- ---- a block that says that its taps lie inside
module _ {width height w h size : ℕ} (t : Taps) (full : Whole width height size) (s : Span w h) (p : TapsIn width height w h t) (e : t.inside ≡ true) where
  abbrev more-taps : ℕ
  more-taps = extra t.phases.px t.phases.py

  abbrev column : ℕ
  column = nat_abs (read w64 t.ox)

  abbrev line : ℕ
  line = nat_abs (read w64 t.oy)

  both : (lies_in t.ox (w + more-taps) width ≡ true) × (lies_in t.oy (h + more-taps) height ≡ true)
  both = both_true _ _ (sym p.whether ∙ e)

  pub taps-column : (read w64 t.ox ≡ pos column) × (column + (w + more-taps) ≤ width) × (origin_of width t.ox ≡ column + 17)
  taps-column =
      let k = full.columns.1 in
      let l = both.0 in
      (lies-read t.ox (w + more-taps) width k l, lies-room t.ox (w + more-taps) width k l, lies-origin t.ox (w + more-taps) width k l (omega arith))

  pub taps-line : (read w64 t.oy ≡ pos line) × (line + (h + more-taps) ≤ height) × (origin_of height t.oy ≡ line + 17)
  taps-line =
      let k = full.lines.1 in
      let l = both.1 in
      (lies-read t.oy (h + more-taps) height k l, lies-room t.oy (h + more-taps) height k l, lies-origin t.oy (h + more-taps) height k l (omega arith))

  pub taps-start : (line * width ≤ 4294967296) × (line ≤ 65536) × (column ≤ 65536)
  taps-start = (line_small {line = line} full (omega (arith, taps-line.1)), omega (arith, taps-line.1), omega (arith, taps-column.1))

  -- the rows of the source are `by` samples long: the width
  pub taps-room : (plane : List ℕ) → Whole width height (length plane) → {by : ℕ} → by ≡ width → line * width + column + (h - 1 + more-taps) * by + w + more-taps ≤ length plane
  taps-room plane whole is = rw is (inside-room plane width height column line w h more-taps whole s.down.0 taps-line.1 taps-column.1)

  pub taps-block : (plane : List ℕ) {by : ℕ} → by ≡ width → (stride dx dy : ℕ) (l : List ℕ)
      → painted stride dx dy w h (four_block (formula t.phases.px t.phases.py) plane by (line * width + column)) l ≡ painted stride dx dy w h (window_block (formula t.phases.px t.phases.py) plane width height (origin_of width t.ox) (origin_of height t.oy)) l
  taps-block plane is stride dx dy l =
      painted-values stride dx dy w h _ _ l
      (λ r c lr lc. rw (is, taps-column.2, taps-line.2) (inside-sample plane width height column line t.phases.px t.phases.py r c w h taps-line.1 taps-column.1 lr lc))
