-- A tile: at most sixteen samples of a block, row after row, in the lanes of a list.
-- Assumes nothing.
use Rattle.std.specs.Prelude.{◌≡◌, List, ℕ, ◌+◌, ◌*◌, ◌/◌, ◌%◌, ◌<◌, ◌≤◌, get_or}
use Rattle.compensation.specs.InnerKernel.{mixed_taps}
use Rattle.compensation.specs.declared.mix.Mix.{Mix}

-- the sizes of a tile that `lanes` lanes have room for
pub record Tile (w h lanes : ℕ) : Type 0 where
  pub across : 0 < w
  pub down : 0 < h
  pub room : w * h ≤ lanes

-- where lane k of a tile of w columns lies, past the place of lane 0, in rows that are `stride` long
unfoldable pub lane_of : ℕ → ℕ → ℕ → ℕ
lane_of stride w k = k / w * stride + k % w

-- the sample of lane k
unfoldable pub lane_at : List ℕ → ℕ → ℕ → ℕ → ℕ → ℕ
lane_at src from stride w k = get_or src (from + lane_of stride w k) 0

-- column c of row r of a tile of w columns whose lanes start at `at`
unfoldable pub tiled : List ℕ → ℕ → ℕ → ℕ → ℕ → ℕ
tiled t at w r c = get_or t (at + (r * w + c)) 0

-- column c of row r of a block that starts at `from`
unfoldable pub taken_at : List ℕ → ℕ → ℕ → ℕ → ℕ → ℕ
taken_at src stride from r c = get_or src (from + r * stride + c) 0

-- the w × h lanes from `at` on have these values
unfoldable pub Holds : List ℕ → ℕ → ℕ → ℕ → (ℕ → ℕ → ℕ) → Type 0
Holds t at w h value = (r c : ℕ) → r < h → c < w → tiled t at w r c ≡ value r c

-- a function of lane k of four tiles: one tile for each tap
unfoldable pub four_lane : (ℕ → ℕ → ℕ → ℕ → ℕ) → List ℕ → List ℕ → List ℕ → List ℕ → ℕ → ℕ
four_lane f first beside second last k = f (get_or first k 0) (get_or beside k 0) (get_or second k 0) (get_or last k 0)

-- lane k of four tiles, mixed
unfoldable pub mixed_lane : Mix → List ℕ → List ℕ → List ℕ → List ℕ → ℕ → ℕ
mixed_lane m = four_lane (mixed_taps m.weights)
