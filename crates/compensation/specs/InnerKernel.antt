-- What the sample loops compute, for the contracts of inner functions: proofs/Mixes.antt and proofs/Taps.antt tie it to `formula` and to the endless plane.
-- The rows of a source are `stride` apart; the taps of place i are i, i + u, i + v and i + u + v.
-- Assumes nothing.
use Rattle.std.specs.Prelude.{◌≡◌, Bool, List, [], ◌∷◌, ℕ, ◌+◌, ◌-◌, ◌*◌, ◌/◌, ◌%◌, ◌^◌, ◌<◌, min, ◌&&◌, eqb, ℤ, pos, negsuc, nat_abs, ◌+ℤ◌, get_or}
use Rattle.ints.specs.Z.{when◌then◌else◌, clamp_z}
use Rattle.picture.specs.InnerRows.{run}
use Rattle.compensation.specs.Formula.{formula}
use Rattle.compensation.specs.declared.mix.Mix.{Mix}
use Rattle.compensation.specs.declared.mix.Weights.{Weights}

-- four values weighed
unfoldable pub weighed : ℕ → ℕ → ℕ → ℕ → ℕ → ℕ → ℕ → ℕ → ℕ
weighed wa wb wc wd a b c d = (wa * a + wb * b + wc * c + wd * d + 6) / 12

-- with m = 1 an even a beside an odd b gets 1 more: so two taps, each raised by the other, sum up to twice their mean, rounded up; with m = 0 a itself
unfoldable pub raised : ℕ → ℕ → ℕ → ℕ
raised m a b = a + m * (b % 2 - a % 2)

-- two pairs of taps, weighed
unfoldable pub mixed_taps : Weights → ℕ → ℕ → ℕ → ℕ → ℕ
mixed_taps w a b c d = let up = raised w.means in weighed w.wa w.wb w.wc w.wd (up a b) (up b a) (up c d) (up d c)

-- a function of two pairs of taps: the tap at place i with the one `beside` places on, and the two that lie `second` places on from these
unfoldable pub paired_at : (ℕ → ℕ → ℕ → ℕ → ℕ) → ℕ → ℕ → List ℕ → ℕ → ℕ
paired_at f beside second src i = f (get_or src i 0) (get_or src (i + beside) 0) (get_or src (i + second) 0) (get_or src (i + (beside + second)) 0)

-- at column c of the row that starts at `from`
unfoldable pub paired_row : (ℕ → ℕ → ℕ → ℕ → ℕ) → ℕ → ℕ → List ℕ → ℕ → ℕ → ℕ
paired_row f beside second src from c = paired_at f beside second src (from + c)

-- at column c of row r of the block that starts at `from`, in rows that are `stride` apart
unfoldable pub paired_block : (ℕ → ℕ → ℕ → ℕ → ℕ) → ℕ → ℕ → List ℕ → ℕ → ℕ → ℕ → ℕ → ℕ
paired_block f beside second src stride from r = paired_row f beside second src (from + r * stride)

-- the sample whose first tap is i
unfoldable pub mixed_at : Mix → List ℕ → ℕ → ℕ
mixed_at m = paired_at (mixed_taps m.weights) m.beside m.second

-- at column c of the row that starts at `from`
unfoldable pub mixed_row : Mix → List ℕ → ℕ → ℕ → ℕ
mixed_row m = paired_row (mixed_taps m.weights) m.beside m.second

-- at column c of row r of the block that starts at `from`
unfoldable pub mixed_block : Mix → List ℕ → ℕ → ℕ → ℕ → ℕ
mixed_block m src = paired_block (mixed_taps m.weights) m.beside m.second src m.stride

-- how far a phase goes: 0 not at all, 1 a third of the way, 2 half of it, 3 two thirds
unfoldable pub way : ℕ → ℕ
way p = 0x332110 / 2 ^ (4 * p) % 4

-- by the way down: the codes of the mixes, 16 bits each by the way across
unfoldable pub mixes : List ℕ
mixes = 0x008400660048000c ∷ 0x3243a24423340408 ∷ 0xc4223333a2440066 ∷ 0x4332c42234230804 ∷ []

-- the code of the mix of two phases
unfoldable pub mix_code : ℕ → ℕ → ℕ
mix_code px py = get_or mixes (way py) 0 / 2 ^ (16 * way px) % 65536

-- m is the mix that a code says, by its four hexadecimal digits, the highest of which has 8 more for means; halfway down, the pairs are columns
pub record MixSaid (stride : ℕ) (halfway : Bool) (code : ℕ) (m : Mix) : Type 0 where
  pub rows : m.stride ≡ stride
  pub beside : m.beside ≡ (when halfway then stride else 1)
  pub second : m.second ≡ (when halfway then 1 else stride)
  pub means : m.weights.means ≡ code / 32768
  pub wa : m.weights.wa ≡ code % 16
  pub wb : m.weights.wb ≡ code / 16 % 16
  pub wc : m.weights.wc ≡ code / 256 % 16
  pub wd : m.weights.wd ≡ code / 4096 % 8

-- a function of the four taps at place i
unfoldable pub four_at : (ℕ → ℕ → ℕ → ℕ → ℕ) → List ℕ → ℕ → ℕ → ℕ → ℕ
four_at f src u v i = f (get_or src i 0) (get_or src (i + u) 0) (get_or src (i + v) 0) (get_or src (i + u + v) 0)

-- the mix of two phases
pub record MixFor (px py stride : ℕ) (m : Mix) : Type 0 where
  pub rows : m.stride ≡ stride
  pub is : (src : List ℕ) (i : ℕ) → mixed_at m src i ≡ four_at (formula px py) src 1 stride i

-- at column c of the row that starts at `from`
unfoldable pub four_row : (ℕ → ℕ → ℕ → ℕ → ℕ) → List ℕ → ℕ → ℕ → ℕ → ℕ → ℕ
four_row f src u v from c = four_at f src u v (from + c)

-- at column c of row r of the block that starts at `from`
unfoldable pub four_block : (ℕ → ℕ → ℕ → ℕ → ℕ) → List ℕ → ℕ → ℕ → ℕ → ℕ → ℕ
four_block f src stride from r = four_row f src 1 stride (from + r * stride)

-- a whole place z, held in -17 to n - 1, which no tap of a block of at most 16 can tell, and counted from -17
unfoldable pub origin_of : ℕ → ℤ → ℕ
origin_of n z = nat_abs (clamp_z (negsuc 16) (pos (n - 1)) z +ℤ pos 17)

-- the nearest of n columns, or rows, to a place so counted
unfoldable pub near : ℕ → ℕ → ℕ
near n i = min (i - 17) (n - 1)

-- the same, c places on
unfoldable pub near_from : ℕ → ℕ → ℕ → ℕ
near_from n i c = near n (i + c)

-- the sample of a line of the plane at the c-th column of a list
unfoldable pub picked : List ℕ → ℕ → List ℕ → ℕ → ℕ
picked plane line columns c = get_or plane (line + get_or columns c 0) 0

-- the same, of the line that is r rows on from the place by
unfoldable pub picked_at : List ℕ → List ℕ → ℕ → ℕ → ℕ → ℕ → ℕ → ℕ
picked_at plane columns width height by r = picked plane (near height (by + r) * width) columns

-- the sample of a line of the plane, c columns on from the place bx
unfoldable pub line_at : List ℕ → ℕ → ℕ → ℕ → ℕ → ℕ
line_at plane line width bx c = get_or plane (line + near width (bx + c)) 0

-- tap c of row r of a block whose first lies at (bx, by)
unfoldable pub window_at : List ℕ → ℕ → ℕ → ℕ → ℕ → ℕ → ℕ → ℕ
window_at plane width height bx by r = line_at plane (near height (by + r) * width) width bx

-- sample c of the line that is r rows on from the place by, counted from the column `from`
unfoldable pub run_at : List ℕ → ℕ → ℕ → ℕ → ℕ → ℕ → ℕ → ℕ
run_at plane width height by from r = run plane (near height (by + r) * width + from)

-- that line's sample of one column, whatever c
unfoldable pub edge_at : List ℕ → ℕ → ℕ → ℕ → ℕ → ℕ → ℕ → ℕ
edge_at plane width height by edge r c = get_or plane (near height (by + r) * width + edge) 0

-- h rows of 34 places: in each the 17 from `from` on are v
pub record Wide (window : List ℕ) (from h : ℕ) (v : ℕ → ℕ → ℕ) : Type 0 where
  pub at : (r c : ℕ) → r < h → c < 17 → get_or window (from + r * 34 + c) 0 ≡ v r c

-- a function of the four taps of sample c of row r
unfoldable pub window_block : (ℕ → ℕ → ℕ → ℕ → ℕ) → List ℕ → ℕ → ℕ → ℕ → ℕ → ℕ → ℕ → ℕ
window_block f plane width height bx by r c =
    let s = window_at plane width height bx by in
    f (s r c) (s r (c + 1)) (s (r + 1) c) (s (r + 1) (c + 1))

-- how many taps past its samples a block reads, each way
unfoldable pub extra : ℕ → ℕ → ℕ
extra px py = when eqb px 0 && eqb py 0 then 0 else 1
