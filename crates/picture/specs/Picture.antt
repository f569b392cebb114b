-- A picture's planes: their lengths, and what they hold after a block was copied or filled.
-- Assumes nothing.
use Rattle.std.specs.Prelude.{ℕ, ◌+◌, ◌*◌, List, get_or}
use Rattle.picture.specs.Painted.{painted}

-- luma 256 samples a macroblock, Cb and Cr 64, and 16 cells of 4 × 4
abbrev pub luma_length : ℕ → ℕ → ℕ
luma_length cols rows = 256 * (cols * rows)

abbrev pub chroma_length : ℕ → ℕ → ℕ
chroma_length cols rows = 64 * (cols * rows)

abbrev pub cell_count : ℕ → ℕ → ℕ
cell_count cols rows = 16 * (cols * rows)

-- the sample of a plane at column x + c of row y + r
unfoldable pub seen : List ℕ → ℕ → ℕ → ℕ → ℕ → ℕ → ℕ
seen plane stride x y r c = get_or plane ((y + r) * stride + x + c) 0

-- a plane after the w × h samples from column x of row y on are copied from the same places of `other`
unfoldable pub copied : List ℕ → ℕ → ℕ → ℕ → ℕ → ℕ → List ℕ → List ℕ
copied plane stride x y w h other = painted stride x y w h (seen other stride x y) plane

-- the same value in each column of each row
unfoldable pub always : {A : Type 0} → A → ℕ → ℕ → A
always v r c = v

-- a list after each of the w × h places from column x of row y on is made v
unfoldable pub filled : {A : Type 0} → List A → ℕ → ℕ → ℕ → ℕ → ℕ → A → List A
filled l stride x y w h v = painted stride x y w h (always v) l
