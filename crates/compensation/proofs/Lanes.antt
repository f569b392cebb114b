-- Tiles: lanes that are loaded are samples of the source, lanes that are stored paint a block, and blocks painted one below the other are one block.
-- Assumes nothing.
use mathlib.Core.Path.{◌≡◌, refl, sym, ap, ◌∙◌}
use mathlib.Core.Logic.{⊎_elim}
use mathlib.Core.List.{List}
use Prim.Native.Nat.{ℕ, zero, suc, ◌+◌, ◌-◌, ◌*◌, ◌/◌, ◌%◌, ◌≤◌, ◌<◌}
use native.Mathlib.Nat.{add-zero, zero-add, add_assoc, add-suc, add-mul, mul_comm, mul-le-mul_right, le-mul_of_pos_right, le_trans, mod-lt, zero-div, zero-mod, mul-div_right, mul-mod_right, div-add-mod', eq-or-lt_of_le, div-lt_iff_lt-mul}
use native.Mathlib.Omega.{arith}
use lib.Arith.{digits_div, digits_mod}
use lib.ListN.{length, get_or, set, replicate, take, drop}
use borrow.Rule.Slice.PartMut.{put_mid}
use Rattle.std.proofs.lemmas.Slice.{put_mid-paste}
use Rattle.refusal.proofs.Parts.{part-length}
use Rattle.picture.specs.Painted.{Inside, painted}
use Rattle.picture.specs.InnerRows.{row, rows}
use Rattle.picture.proofs.Laws.{more, row-length, row-paste, row_same, row_other, row_more, rows-painted, painted-values}
use Rattle.compensation.specs.InnerKernel.{paired_at, paired_row, paired_block, mixed_row, mixed_block}
use Rattle.compensation.specs.InnerLanes.{Tile, lane_of, lane_at, tiled, taken_at, Holds, four_lane}
use Rattle.compensation.specs.declared.mix.Mix.{Mix}

-- ---- sixteen lanes have room for two tiles of eight
pub roomier : {w h : ℕ} → Tile w h 8 → Tile w h 16
roomier t = record { across = t.across; down = t.down; room = omega (arith, t.room) }

pub two : {w h : ℕ} → Tile w h 8 → w * h + w * h ≤ 16
two t = omega (arith, t.room)

-- ---- lane k of a tile of w columns: row k / w, column k % w
module _ {w : ℕ} (some : 0 < w) where
  lane_row : (h k : ℕ) → k < w * h → k / w < h
  lane_row h k l = (div-lt_iff_lt-mul some).1 (rw (mul_comm h w) l)

  -- no place is further than the last column of the last row
  pub lane_place : (h stride k : ℕ) → k < w * h → k / w * stride + k % w + stride < h * stride + w
  lane_place h stride k l = omega (arith, more stride (lane_row h k l), mod-lt k some)

  -- the next lane: the next column, or the first of the next row
  next-column : (k : ℕ) → k % w + 1 < w → ((k + 1) / w ≡ k / w) × ((k + 1) % w ≡ k % w + 1)
  next-column k l =
      let e : k + 1 ≡ k / w * w + (k % w + 1) = omega (arith, div-add-mod' k w) in
      (ap (λ n. n / w) e ∙ digits_div (k / w) l, ap (λ n. n % w) e ∙ digits_mod (k / w) l)

  next_row : (k : ℕ) → k % w + 1 ≡ w → ((k + 1) / w ≡ suc (k / w)) × ((k + 1) % w ≡ 0)
  next_row k l =
      let e : k + 1 ≡ suc (k / w) * w + 0 = omega (arith, div-add-mod' k w, add-mul (k / w) 1 w) in
      (ap (λ n. n / w) e ∙ digits_div (suc (k / w)) some, ap (λ n. n % w) e ∙ digits_mod (suc (k / w)) some)

tile-lane : (w h r c : ℕ) → r < h → c < w → r * w + c < w * h
tile-lane w h r c lr lc = omega (arith, more w lr, mul_comm h w)

-- lane k, by its row and column
pub lane-back : (t : List ℕ) (at w k : ℕ) → get_or t (at + k) 0 ≡ tiled t at w (k / w) (k % w)
unfolding tiled
lane-back t at w k = rw (div-add-mod' k w)

-- ---- k lanes stored: whole rows, and the start of one
module _ (l : List ℕ) (s x y : ℕ) (v : ℕ → ℕ → ℕ) where
  unfoldable pub cells : ℕ → ℕ → List ℕ
  cells w k = row (rows l s x y v w (k / w)) ((y + k / w) * s + x) (v (k / w)) (k % w)

  module _ {w : ℕ} (some : 0 < w) where
    pub cells-none : l ≡ cells w 0
    unfolding cells row rows
    cells-none = rw (zero-div w, zero-mod w)

    pub cells-all : (h : ℕ) → cells w (w * h) ≡ rows l s x y v w h
    unfolding cells row
    cells-all h = rw (mul-div_right h some, mul-mod_right w h)

    row_done : (k : ℕ) → k % w + 1 ≡ w → row (rows l s x y v w (k / w)) ((y + k / w) * s + x) (v (k / w)) (k % w + 1) ≡ cells w (k + 1)
    unfolding cells row rows
    row_done k last = let n = next_row some k last in rw (n.0, n.1, last)

    pub cells-more : {m : List ℕ} {a : ℕ} (k : ℕ) → m ≡ cells w k → a ≡ v (k / w) (k % w) → set m (y * s + x + (k / w * s + k % w)) a ≡ cells w (k + 1)
    unfolding cells
    cells-more {m} {a} k e f =
        let q = k / w in
        let at : y * s + x + (q * s + k % w) ≡ (y + q) * s + x + k % w = omega (arith, add-mul y q s) in
        let one : set m ((y + q) * s + x + k % w) a ≡ row (rows l s x y v w q) ((y + q) * s + x) (v q) (k % w + 1) = row_more (rows l s x y v w q) ((y + q) * s + x) (v q) (k % w) e f in
        rw at (one ∙ ⊎_elim (λ last. row_done k last) (λ lt. let n = next-column some k lt in rw (n.0, n.1)) (eq-or-lt_of_le (omega (arith, mod-lt k some))))

-- ---- a part of a list: its length, and that the list has what was stored in the part one by one
pub part-size : (at n : ℕ) (l : List ℕ) → at + n ≤ length l → length (take (at + n - at) (drop at l)) ≡ n
part-size at n l room = let same : at + n - at ≡ n = omega arith in rw same (part-length at n l room)

pub part-row : {p : List ℕ} (l : List ℕ) (at n : ℕ) (v : ℕ → ℕ) → at + n ≤ length l → p ≡ row (take (at + n - at) (drop at l)) 0 v n → put_mid at (at + n - at) l p ≡ row l at v n
part-row {p} l at n v room e =
    let some = take (at + n - at) (drop at l) in
    let many = part-size at n l room in
    let long : length p ≡ n = ap length e ∙ row-length some 0 v n ∙ many in
    put_mid-paste at _ l p p n refl (omega arith) (omega arith)
    ∙ row-paste l at v p 0 n room (omega arith) (λ k h. ap (λ m. get_or m k 0) e ∙ rw zero-add at (row_same some 0 v n k 0 h (omega arith)))

-- ---- lanes that were loaded
pub loaded : {t : List ℕ} (l src : List ℕ) (at from stride w h : ℕ) → t ≡ row l at (lane_at src from stride w) (w * h) → at + w * h ≤ length l → Holds t at w h (taken_at src stride from)
unfolding Holds tiled taken_at lane_at lane_of
loaded {t} l src at from stride w h e room r c lr lc =
    let k = r * w + c in
    let place : from + (k / w * stride + k % w) ≡ from + r * stride + c = rw (digits_div r lc, digits_mod r lc) (omega arith) in
    rw e (row_same l at (lane_at src from stride w) (w * h) k 0 (tile-lane w h r c lr lc) room ∙ ap (λ i. get_or src i 0) place)

-- lanes that are loaded further on leave the first ones
pub kept : {t' : List ℕ} (t : List ℕ) (at w h n : ℕ) (v : ℕ → ℕ) (f : ℕ → ℕ → ℕ) → t' ≡ row t at v n → w * h ≤ at → Holds t 0 w h f → Holds t' 0 w h f
unfolding Holds tiled
kept t at w h n v f e apart holds r c lr lc =
    rw e (row_other t at v n (0 + (r * w + c)) 0 (λ k lk. let m = tile-lane w h r c lr lc in omega arith) ∙ holds r c lr lc)

-- ---- lanes that were mixed, by any function of two pairs of taps
module _ (f : ℕ → ℕ → ℕ → ℕ → ℕ) (beside second : ℕ) (src : List ℕ) (stride from at w h : ℕ) (room : at + w * h ≤ 16) where
  pub mixed-tile : {t : List ℕ} (a b c d : List ℕ) → t ≡ row (replicate 16 0) 0 (four_lane f a b c d) 16
      → Holds a at w h (taken_at src stride from) → Holds b at w h (taken_at src stride (from + beside))
      → Holds c at w h (taken_at src stride (from + second)) → Holds d at w h (taken_at src stride (from + (beside + second)))
      → Holds t at w h (paired_block f beside second src stride from)
  unfolding Holds tiled taken_at paired_block paired_row paired_at four_lane
  mixed-tile {t} a b c d e ha hb hc hd r k lr lk =
      let i = at + (r * w + k) in
      let lane : get_or t i 0 ≡ four_lane f a b c d i = rw e (rw zero-add at (row_same (replicate 16 0) 0 (four_lane f a b c d) 16 i 0 (omega (arith, tile-lane w h r k lr lk)) (omega arith))) in
      let on : (n : ℕ) → get_or src (from + n + r * stride + k) 0 ≡ get_or src (from + r * stride + k + n) 0 = λ n. let q : from + n + r * stride + k ≡ from + r * stride + k + n = omega arith in ap (λ j. get_or src j 0) q in
      let pa = ha r k lr lk in
      let pb = hb r k lr lk ∙ on beside in
      let pc = hc r k lr lk ∙ on second in
      let pd = hd r k lr lk ∙ on (beside + second) in
      lane ∙ (λ j. f (pa j) (pb j) (pc j) (pd j))

-- ---- blocks one below the other
inside-rows : {s x y w h size : ℕ} (r t : ℕ) → Inside s x y w h size → r + t ≤ h → Inside s x (y + r) w t size
inside-rows {s} {x} {y} {w} {h} r t i le =
    let d : (y + r + t) * s ≤ (y + h) * s = mul-le-mul_right s (omega arith) in
    record { some = i.some; across = i.across; down = le_trans d i.down }

-- a tile that is the whole block
pub tile-whole : {l' : List ℕ} (l t : List ℕ) (s x y at w h : ℕ) (value : ℕ → ℕ → ℕ) → Holds t at w h value → l' ≡ painted s x y w h (tiled t at w) l → l' ≡ painted s x y w h value l
unfolding Holds
tile-whole l t s x y at w h value holds stored = stored ∙ painted-values s x y w h (tiled t at w) value l holds

-- a turn of a loop by tiles of t rows: how far its rows lie, and that its tile lies in the plane
pub tile-turn : {s x y w h size n : ℕ} (r t stride : ℕ) → Inside s x y w h size → n ≡ size → r + t ≤ h → (r * stride + t * stride ≤ h * stride) × (y + r ≤ size) × Inside s x (y + r) w t n
tile-turn {s} {x} {y} {w} {h} r t stride inside e le = (rw (add-mul r t stride) at (mul-le-mul_right stride le), omega (arith, inside.down, le-mul_of_pos_right (y + h) inside.some), rw e (inside-rows r t inside le))

-- the same of turn i, of as many as there are whole tiles
pub turn-lies : {s x y w h size n i : ℕ} (t stride : ℕ) → Inside s x y w h size → n ≡ size → i < h / t → (i * t * stride + t * stride ≤ h * stride) × (y + i * t ≤ size) × Inside s x (y + i * t) w t n
turn-lies {h = h} {i = i} t stride inside e l = tile-turn (i * t) t stride inside e (omega (arith, more t l, div-add-mod' h t))

-- all turns are all rows
pub turns-all : {h i : ℕ} (t : ℕ) → i ≤ h / t → h / t ≤ i → h % t ≡ 0 → i * t ≡ h
turns-all {h} {i} t most least whole = let e : i ≡ h / t = omega arith in rw e (omega (arith, div-add-mod' h t))

rows_on : (l : List ℕ) (s x y : ℕ) (v : ℕ → ℕ → ℕ) (w r t : ℕ) → rows (rows l s x y v w r) s x (y + r) (λ i. v (r + i)) w t ≡ rows l s x y v w (r + t)
unfolding rows
rows_on l s x y v w r zero = rw (add-zero r)
rows_on l s x y v w r (suc t) = rw (add-suc r t) (rw (add_assoc y r t) (ap (λ (m : List ℕ). row m ((y + (r + t)) * s + x) (v (r + t)) w) (rows_on l s x y v w r t)))

-- a tile below r rows, of any rows that are made by the place that they start at
pub tile-more : {l l' : List ℕ} (l₀ t : List ℕ) (s x y : ℕ) (value : ℕ → ℕ → ℕ) (stride from at w h r : ℕ)
    → l ≡ rows l₀ s x y (λ k. value (from + k * stride)) w r → Holds t at w h (λ k. value (from + r * stride + k * stride))
    → l' ≡ painted s x (y + r) w h (tiled t at w) l → Inside s x (y + r) w h (length l)
    → l' ≡ rows l₀ s x y (λ k. value (from + k * stride)) w (r + h)
unfolding Holds
tile-more {l} l₀ t s x y value stride from at w h r e holds stored inside =
    let v : ℕ → ℕ → ℕ = λ k. value (from + k * stride) in
    let on : (k : ℕ) → from + r * stride + k * stride ≡ from + (r + k) * stride = λ k. omega (arith, add-mul r k stride) in
    stored
    ∙ painted-values s x (y + r) w h (tiled t at w) (λ k. v (r + k)) l (λ k c lk lc. holds k c lk lc ∙ ap (λ (j : ℕ). value j c) (on k))
    ∙ sym (rows-painted 0 l (λ k. v (r + k)) inside)
    ∙ ap (λ (k : List ℕ). rows k s x (y + r) (λ j. v (r + j)) w h) e
    ∙ rows_on l₀ s x y v w r h

-- turn i of a loop that stores tiles of h rows
pub turn-more : {l l' : List ℕ} (l₀ t : List ℕ) (s x y : ℕ) (m : Mix) (src : List ℕ) (from at w h i : ℕ)
    → l ≡ rows l₀ s x y (mixed_block m src from) w (i * h) → Holds t at w h (mixed_block m src (from + i * h * m.stride))
    → l' ≡ painted s x (y + i * h) w h (tiled t at w) l → Inside s x (y + i * h) w h (length l)
    → l' ≡ rows l₀ s x y (mixed_block m src from) w ((i + 1) * h)
unfolding mixed_block mixed_row paired_block
turn-more l₀ t s x y m src from at w h i e holds stored inside =
    let next : i * h + h ≡ (i + 1) * h = omega (arith, add-mul i 1 h) in
    tile-more l₀ t s x y (mixed_row m src) m.stride from at w h (i * h) e holds stored inside ∙ ap (λ n. rows l₀ s x y (mixed_block m src from) w n) next
