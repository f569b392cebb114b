-- Partitions lie in their macroblock and tile it, in luma samples, in chroma samples and in 4×4 cells.
-- Assumes nothing.
use mathlib.Core.Path.{◌≡◌, refl, sym, ap, ◌∙◌, subst}
use mathlib.Core.Bool.{Bool, true, false, ◌&&◌}
use mathlib.Core.Logic.{◌↔◌, ⊎_elim}
use Prim.Native.Nat.{ℕ, zero, suc, ◌+◌, ◌-◌, ◌*◌, ◌/◌, ◌%◌, ◌^◌, ◌<◌, ◌≤◌}
use native.Mathlib.Nat.{mul_assoc, mul-mod_left, div-one, mul-le-mul_right, mod-lt, mod-eq_of_lt, div-add-mod', div-mul-le_self, lt-div-mul-add, div-lt_iff_lt-mul, div-eq_of_lt-le, div-eq_of_lt, mul-add-div_right, mul-add-mod_self_right, mul-div_cancel, eq-or-lt_of_le, le_of_suc-le-suc}
use native.Mathlib.Omega.{arith}
use lib.Pow.{pow_pos}
use lib.Dec.{T, eqb, ltb, leb, eqb→eq, ltb→lt, leb→le}
use Rattle.vectors.specs.InnerWindow.{Part}
use Rattle.vectors.specs.Modes.{partition_width, partition_height, num_motion_vectors, offset_x, offset_y}

-- ---- spans of equal width: place a is in span j exactly where its quotient is j
span : (w j a : ℕ) → 0 < w → ((j * w ≤ a) × (a < j * w + w)) ↔ (a / w ≡ j)
span w j a z = (
  (λ h. div-eq_of_lt-le w h.0 (omega (arith, h.1))),
  (λ e. subst (λ (q : ℕ). (q * w ≤ a) × (a < q * w + w)) e (div-mul-le_self a w, lt-div-mul-add z)),
)

-- ---- blocks of w by h in rows of k: block i holds exactly the places whose quotients count to i
module _ (k w h i a b : ℕ) (some : 0 < k) (wide : 0 < w) (high : 0 < h) where
  block_of : (i % k * w ≤ a) × (a < i % k * w + w) → (i / k * h ≤ b) × (b < i / k * h + h) → i ≡ b / h * k + a / w
  block_of x y = rw ((span w (i % k) a wide).0 x, (span h (i / k) b high).0 y) (sym (div-add-mod' i k))

  of-block : a < k * w → i ≡ b / h * k + a / w → (i % k * w ≤ a) × (a < i % k * w + w) × (i / k * h ≤ b) × (b < i / k * h + h)
  of-block fits e =
      let q : a / w < k = (div-lt_iff_lt-mul wide).1 fits in
      let x : i % k ≡ a / w = rw (e, mul-add-mod_self_right (b / h) k (a / w)) (mod-eq_of_lt q) in
      let y : i / k ≡ b / h = rw (e, mul-add-div_right some (b / h) (a / w), div-eq_of_lt q) (omega arith) in
      let c = (span w (i % k) a wide).1 (sym x) in
      let d = (span h (i / k) b high).1 (sym y) in
      (c.0, c.1, d.0, d.1)

-- ---- a rule of the modes is a test at each of them
and_left : (s t : Bool) → T (s && t) → T s
and_left true t h = tt
and_left false t h = h

and_right : (s t : Bool) → T (s && t) → T t
and_right true t h = h
and_right false t h = absurd h

abbrev all : (ℕ → Bool) → ℕ → Bool
all f zero = true
all f (suc n) = f n && all f n

all-at : (f : ℕ → Bool) (n : ℕ) → T (all f n) → (i : ℕ) → i < n → T (f i)
all-at f zero t i h = absurd (omega arith)
all-at f (suc n) t i h = ⊎_elim
    (λ (e : i ≡ n). rw e (and_left (f n) (all f n) t))
    (λ (l : i < n). all-at f n (and_right (f n) (all f n) t) i l)
    (eq-or-lt_of_le (le_of_suc-le-suc h))

-- in units of u samples, a macroblock is cut into 16 / width whole partitions across and 16 / height down
pub record Cut (u mode : ℕ) : Type 0 where
  pub exact-w : partition_width mode / u * u ≡ partition_width mode
  pub exact-h : partition_height mode / u * u ≡ partition_height mode
  pub across : 16 / partition_width mode * (partition_width mode / u) ≡ 16 / u
  pub down : 16 / partition_height mode * (partition_height mode / u) ≡ 16 / u
  pub row : 0 < 16 / partition_width mode
  pub wide : 0 < partition_width mode / u
  pub high : 0 < partition_height mode / u
  pub count : num_motion_vectors mode ≤ 16 / partition_width mode * (16 / partition_height mode)

-- units: 2 ^ 0 is a luma sample, 2 ^ 1 a chroma sample, 2 ^ 2 a cell
everywhere : (f : ℕ → ℕ → Bool) → T (all (λ e. all (f e) 8) 3) → (e mode : ℕ) → e ≤ 2 → mode ≤ 7 → T (f e mode)
everywhere f t e mode h k = all-at (f e) 8 (all-at (λ e. all (f e) 8) 3 t e (omega arith)) mode (omega arith)

pub cut : (e mode : ℕ) → e ≤ 2 → mode ≤ 7 → Cut (2 ^ e) mode
unfolding partition_width partition_height num_motion_vectors
cut e mode h k = record {
  exact-w = eqb→eq _ _ (everywhere (λ e m. eqb (partition_width m / 2 ^ e * 2 ^ e) (partition_width m)) tt e mode h k);
  exact-h = eqb→eq _ _ (everywhere (λ e m. eqb (partition_height m / 2 ^ e * 2 ^ e) (partition_height m)) tt e mode h k);
  across = eqb→eq _ _ (everywhere (λ e m. eqb (16 / partition_width m * (partition_width m / 2 ^ e)) (16 / 2 ^ e)) tt e mode h k);
  down = eqb→eq _ _ (everywhere (λ e m. eqb (16 / partition_height m * (partition_height m / 2 ^ e)) (16 / 2 ^ e)) tt e mode h k);
  row = ltb→lt _ _ (everywhere (λ e m. ltb 0 (16 / partition_width m)) tt e mode h k);
  wide = ltb→lt _ _ (everywhere (λ e m. ltb 0 (partition_width m / 2 ^ e)) tt e mode h k);
  high = ltb→lt _ _ (everywhere (λ e m. ltb 0 (partition_height m / 2 ^ e)) tt e mode h k);
  count = leb→le _ _ (everywhere (λ e m. leb (num_motion_vectors m) (16 / partition_width m * (16 / partition_height m))) tt e mode h k);
}

-- the partitions of a mode that is no skip are all that fit
num-is : (mode : ℕ) → 1 ≤ mode → mode ≤ 7 → num_motion_vectors mode ≡ 16 / partition_width mode * (16 / partition_height mode)
unfolding partition_width partition_height num_motion_vectors
num-is zero h k = absurd (omega arith)
num-is (suc m) h k = eqb→eq _ _ (all-at (λ m. eqb (num_motion_vectors (suc m)) (16 / partition_width (suc m) * (16 / partition_height (suc m)))) 7 tt m (omega arith))

-- at most sixteen
pub num-most : (mode : ℕ) → mode ≤ 7 → num_motion_vectors mode ≤ 16
unfolding num_motion_vectors
num-most mode k = leb→le _ _ (all-at (λ m. leb (num_motion_vectors m) 16) 8 tt mode (omega arith))

-- ---- where a partition starts, in units of u samples
module _ (u mode i : ℕ) (some : 0 < u) (c : Cut u mode) where
  scaled : (n w : ℕ) → w / u * u ≡ w → n * w / u ≡ n * (w / u)
  scaled n w e =
      let x : n * w ≡ n * (w / u) * u = ap (λ (t : ℕ). n * t) (sym e) ∙ sym (mul_assoc n (w / u) u) in
      rw x (mul-div_cancel (n * (w / u)) some)

  pub offset-x : offset_x mode i / u ≡ i % (16 / partition_width mode) * (partition_width mode / u)
  unfolding offset_x
  offset-x = scaled (i % (16 / partition_width mode)) (partition_width mode) c.exact-w

  pub offset-y : offset_y mode i / u ≡ i / (16 / partition_width mode) * (partition_height mode / u)
  unfolding offset_y
  offset-y = scaled (i / (16 / partition_width mode)) (partition_height mode) c.exact-h

-- n spans of w, and one more, are in k spans
one_more : (n k w : ℕ) → n < k → n * w + w ≤ k * w
one_more n k w h = omega (arith, mul-le-mul_right w h)

-- among the blocks that fit: in a mode that is no skip its partitions, in a skip one
abbrev pub Among : ℕ → ℕ → Type 0
Among mode i = i < 16 / partition_width mode * (16 / partition_height mode)

pub among : (mode i : ℕ) → mode ≤ 7 → i ≤ num_motion_vectors mode - 1 → Among mode i
unfolding partition_width partition_height num_motion_vectors
among mode i k l =
    let m = ltb→lt _ _ (all-at (λ m. ltb (num_motion_vectors m - 1) (16 / partition_width m * (16 / partition_height m))) 8 tt mode (omega arith)) in
    omega (arith, m, l)

-- INSIDE: a partition lies in its macroblock
inside-among : (e mode i : ℕ) → e ≤ 2 → mode ≤ 7 → Among mode i
    → (offset_x mode i / 2 ^ e + partition_width mode / 2 ^ e ≤ 16 / 2 ^ e) × (offset_y mode i / 2 ^ e + partition_height mode / 2 ^ e ≤ 16 / 2 ^ e)
inside-among e mode i h k l =
    let c = cut e mode h k in
    let m : i < 16 / partition_height mode * (16 / partition_width mode) = omega (arith, l) in (
      rw (offset-x (2 ^ e) mode i (pow_pos e) c, ← c.across) (one_more (i % (16 / partition_width mode)) (16 / partition_width mode) (partition_width mode / 2 ^ e) (mod-lt i c.row)),
      rw (offset-y (2 ^ e) mode i (pow_pos e) c, ← c.down) (one_more (i / (16 / partition_width mode)) (16 / partition_height mode) (partition_height mode / 2 ^ e) ((div-lt_iff_lt-mul c.row).1 m)),
    )

pub inside-units : (e mode i : ℕ) → e ≤ 2 → mode ≤ 7 → i < num_motion_vectors mode
    → (offset_x mode i / 2 ^ e + partition_width mode / 2 ^ e ≤ 16 / 2 ^ e) × (offset_y mode i / 2 ^ e + partition_height mode / 2 ^ e ≤ 16 / 2 ^ e)
inside-units e mode i h k l = inside-among e mode i h k (omega (arith, l, (cut e mode h k).count))

pub inside : (mode i : ℕ) → mode ≤ 7 → i < num_motion_vectors mode → (offset_x mode i + partition_width mode ≤ 16) × (offset_y mode i + partition_height mode ≤ 16)
inside mode i k l = simp div-one at (inside-units 0 mode i (omega arith) k l)

-- a partition of a mode, in cells
pub part_of : (mode i : ℕ) → mode ≤ 7 → Among mode i → Part (offset_x mode i / 4) (offset_y mode i / 4) (partition_width mode / 4) (partition_height mode / 4)
part_of mode i k l =
    let h = inside-among 2 mode i (omega arith) k l in
    let c = cut 2 mode (omega arith) k in
    record {
      across = h.0;
      down = h.1;
      wide_some = c.wide;
      high_some = c.high;
      left = ap (λ (n : ℕ). n % (partition_width mode / 4)) (offset-x 4 mode i (omega arith) c) ∙ mul-mod_left (i % (16 / partition_width mode)) (partition_width mode / 4);
      top = ap (λ (n : ℕ). n % (partition_height mode / 4)) (offset-y 4 mode i (omega arith) c) ∙ mul-mod_left (i / (16 / partition_width mode)) (partition_height mode / 4);
    }

-- ---- partition i holds the place (a, b) of its macroblock, in units of u samples
pub record Holds (u mode i a b : ℕ) : Type 0 where
  pub left : offset_x mode i / u ≤ a
  pub right : a < offset_x mode i / u + partition_width mode / u
  pub top : offset_y mode i / u ≤ b
  pub bottom : b < offset_y mode i / u + partition_height mode / u

abbrev pub partition_at : ℕ → ℕ → ℕ → ℕ → ℕ
partition_at u mode a b = b / (partition_height mode / u) * (16 / partition_width mode) + a / (partition_width mode / u)

-- TILES: each place is held by one partition, and by no other
pub tiles : (e mode i a b : ℕ) → e ≤ 2 → mode ≤ 7 → a < 16 / 2 ^ e → Holds (2 ^ e) mode i a b ↔ (i ≡ partition_at (2 ^ e) mode a b)
tiles e mode i a b h k l = (to, back)
  where
    to : Holds (2 ^ e) mode i a b → i ≡ partition_at (2 ^ e) mode a b
    to t =
        let c = cut e mode h k in
        let x = offset-x (2 ^ e) mode i (pow_pos e) c in
        let y = offset-y (2 ^ e) mode i (pow_pos e) c in
        block_of (16 / partition_width mode) (partition_width mode / 2 ^ e) (partition_height mode / 2 ^ e) i a b c.row c.wide c.high
        (rw x at t.left, rw x at t.right) (rw y at t.top, rw y at t.bottom)

    back : i ≡ partition_at (2 ^ e) mode a b → Holds (2 ^ e) mode i a b
    back q =
        let c = cut e mode h k in
        let x = offset-x (2 ^ e) mode i (pow_pos e) c in
        let y = offset-y (2 ^ e) mode i (pow_pos e) c in
        let t = of-block (16 / partition_width mode) (partition_width mode / 2 ^ e) (partition_height mode / 2 ^ e) i a b c.row c.wide c.high (rw c.across l) q in
        record { left = rw x t.0; right = rw x t.1; top = rw y t.2; bottom = rw y t.3 }

-- and that one is among the mode's
pub tiles-all : (e mode a b : ℕ) → e ≤ 2 → 1 ≤ mode → mode ≤ 7 → a < 16 / 2 ^ e → b < 16 / 2 ^ e → partition_at (2 ^ e) mode a b < num_motion_vectors mode
tiles-all e mode a b h z k l m =
    let c = cut e mode h k in
    let x : a / (partition_width mode / 2 ^ e) < 16 / partition_width mode = (div-lt_iff_lt-mul c.wide).1 (rw c.across l) in
    let y : b / (partition_height mode / 2 ^ e) < 16 / partition_height mode = (div-lt_iff_lt-mul c.high).1 (rw c.down m) in
    rw (num-is mode z k) (omega (arith, x, one_more (b / (partition_height mode / 2 ^ e)) (16 / partition_height mode) (16 / partition_width mode) y))

-- EXACTLY ONE partition of the mode holds the place (a, b)
pub record Exactly (u mode a b : ℕ) : Type 0 where
  pub i : ℕ
  pub among : i < num_motion_vectors mode
  pub held : Holds u mode i a b
  pub only : (j : ℕ) → Holds u mode j a b → j ≡ i

pub exactly-one : (e mode a b : ℕ) → e ≤ 2 → 1 ≤ mode → mode ≤ 7 → a < 16 / 2 ^ e → b < 16 / 2 ^ e → Exactly (2 ^ e) mode a b
exactly-one e mode a b h z k l m = record {
  i = partition_at (2 ^ e) mode a b;
  among = tiles-all e mode a b h z k l m;
  held = (tiles e mode (partition_at (2 ^ e) mode a b) a b h k l).1 refl;
  only = λ j. (tiles e mode j a b h k l).0;
}

-- ---- the code's bytes by mode, and its products
pub mode-byte : (word : ℕ) (table : ℕ → ℕ) → T (all (λ m. eqb (word / 2 ^ (8 * m) % 256) (table m)) 8) → (mode : ℕ) → mode ≤ 7 → word / 2 ^ (8 * mode) % 256 ≡ table mode
mode-byte word table t mode k = eqb→eq _ _ (all-at (λ m. eqb (word / 2 ^ (8 * m) % 256) (table m)) 8 t mode (omega arith))

-- a rule of sixteen partitions of a mode
each : (f : ℕ → ℕ → Bool) → T (all (λ m. all (f m) 16) 8) → (mode i : ℕ) → mode ≤ 7 → i < 16 → T (f mode i)
each f t mode i k l = all-at (f mode) 16 (all-at (λ m. all (f m) 16) 8 t mode (omega arith)) i l

pub offset-x-is : (mode i : ℕ) → mode ≤ 7 → i < 16 → i * partition_width mode % 16 ≡ offset_x mode i
unfolding partition_width offset_x
offset-x-is mode i k l = eqb→eq _ _ (each (λ m j. eqb (j * partition_width m % 16) (offset_x m j)) tt mode i k l)

pub offset-y-is : (mode i : ℕ) → mode ≤ 7 → i < 16 → i * partition_width mode / 16 * partition_height mode ≡ offset_y mode i
unfolding partition_width partition_height offset_y
offset-y-is mode i k l = eqb→eq _ _ (each (λ m j. eqb (j * partition_width m / 16 * partition_height m) (offset_y m j)) tt mode i k l)

pub product : (mode i : ℕ) → mode ≤ 7 → i < 16 → i * partition_width mode ≤ 256
unfolding partition_width
product mode i k l = leb→le _ _ (each (λ m j. leb (j * partition_width m) 256) tt mode i k l)

-- a multiple of a side that is four times another
fourfold : (n q s : ℕ) → 4 * q ≡ s → n * s ≡ 4 * (n * q)
fourfold n q s e = rw (sym e) (omega arith)

-- partition i of a mode in cells, as the code has it
pub record InCells (mode i : ℕ) : Type 0 where
  pub few : i < 16
  pub x : i * (partition_width mode / 4) % 4 ≡ offset_x mode i / 4
  pub y : i * (partition_width mode / 4) / 4 * (partition_height mode / 4) ≡ offset_y mode i / 4
  pub product : i * (partition_width mode / 4) ≤ 64
  pub x-in_samples : 4 * (offset_x mode i / 4) ≡ offset_x mode i
  pub y-in_samples : 4 * (offset_y mode i / 4) ≡ offset_y mode i
  pub wide-in_samples : 4 * (partition_width mode / 4) ≡ partition_width mode
  pub high-in_samples : 4 * (partition_height mode / 4) ≡ partition_height mode
  pub part : Part (offset_x mode i / 4) (offset_y mode i / 4) (partition_width mode / 4) (partition_height mode / 4)

pub in_cells : (mode i : ℕ) → mode ≤ 7 → i ≤ num_motion_vectors mode - 1 → InCells mode i
in_cells mode i k l = record {
  few = few;
  x = omega (arith, across, offset-x-is mode i k few);
  y = omega (arith, down);
  product = omega (arith, across, product mode i k few);
  x-in_samples = omega (arith, across, offset-x-is mode i k few);
  y-in_samples = omega (arith, down);
  wide-in_samples = wide;
  high-in_samples = high;
  part = part_of mode i k (among mode i k l);
}
  where
    few : i < 16
    few = omega (arith, num-most mode k, l)

    wide : 4 * (partition_width mode / 4) ≡ partition_width mode
    wide = omega (arith, (cut 2 mode (omega arith) k).exact-w)

    high : 4 * (partition_height mode / 4) ≡ partition_height mode
    high = omega (arith, (cut 2 mode (omega arith) k).exact-h)

    across : i * partition_width mode ≡ 4 * (i * (partition_width mode / 4))
    across = fourfold i (partition_width mode / 4) (partition_width mode) wide

    row : i * partition_width mode / 16 ≡ i * (partition_width mode / 4) / 4
    row = omega (arith, across)

    down : offset_y mode i ≡ 4 * (i * (partition_width mode / 4) / 4 * (partition_height mode / 4))
    down = sym (offset-y-is mode i k few) ∙ ap (λ n. n * partition_height mode) row ∙ fourfold (i * (partition_width mode / 4) / 4) (partition_height mode / 4) (partition_height mode) high
