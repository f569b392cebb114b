-- The window of a macroblock: the 6 × 5 cells that its partitions see, its own 4 × 4 with a column on either side and a row above, by rows.
-- Column c of row r is the picture's cell above and to the left of (4 · column + c, 4 · row + r).
-- Assumes nothing.
use Rattle.std.specs.Prelude.{◌≡◌, List, ℕ, suc, ◌+◌, ◌-◌, ◌*◌, ◌%◌, ◌<◌, ◌≤◌, pos, eqb, length, get_or, set, Option, Some, None}
use Rattle.ints.specs.Z.{when◌then◌else◌}
use Rattle.picture.specs.Picture.{cell_count}
use Rattle.picture.specs.Field.{Field}
use Rattle.vectors.specs.Predict.{vector, above_left_of}
use Rattle.vectors.specs.declared.svq3_frame.Vector.{Vector}
use Rattle.vectors.specs.declared.window.Neighbours.{Neighbours}

-- by a mark: none where it is 0
abbrev pub shown : ℕ → Vector → Option Vector
shown m v = when eqb m 0 then None else Some v

-- what cell k shows
unfoldable pub shown_at : Neighbours → ℕ → Option Vector
shown_at n k = shown (get_or n.marks k 0) (get_or n.vectors k (vector (pos 0) (pos 0)))

-- k is the first or the last of a span of n, spans starting at 0
pub data End (n k : ℕ) : Type 0 where
  first : k % n ≡ 0 → End n k
  last : suc (k % n) ≡ n → End n k

-- column c of row r is what a partition of wide × high cells may look at: around the macroblock, or at a corner of a partition
pub data Sight (wide high c r : ℕ) : Type 0 where
  on_left : c ≡ 0 → Sight wide high c r
  on_right : c ≡ 5 → Sight wide high c r
  above : r ≡ 0 → Sight wide high c r
  corner : End wide (c - 1) → End high (r - 1) → Sight wide high c r

-- each such cell shows what the field has there
pub record Seen (wide high : ℕ) (f : Field) (column row : ℕ) (n : Neighbours) : Type 0 where
  pub shows : (c r : ℕ) → c < 6 → r < 5 → Sight wide high c r → shown_at n (r * 6 + c) ≡ above_left_of f (4 * column + c) (4 * row + r)

-- a at the corners of a partition: its first cell is k, the others lie `across` and `down` cells on
abbrev pub corners : {A : Type 0} → List A → ℕ → ℕ → ℕ → A → List A
corners l k across down a = set (set (set (set l k a) (k + across) a) (k + down) a) (k + across + down) a

-- a field whose lists have the lengths of its grid
pub record FieldSized (f : Field) : Type 0 where
  pub numbers : length f.mv ≡ 2 * cell_count f.cols f.rows
  pub cells : length f.marks ≡ cell_count f.cols f.rows

-- the window follows the field f of a cols × rows grid: what holds before a partition of wide × high cells and after it
pub record Follows (wide high : ℕ) (f : Field) (cols rows column row : ℕ) (n : Neighbours) : Type 0 where
  pub same_cols : f.cols ≡ cols
  pub same_rows : f.rows ≡ rows
  pub sized : FieldSized f
  pub seen : Seen wide high f column row n

-- a partition of wide × high cells, the first of them (cx, cy), lies in its macroblock, among others of its size
pub record Part (cx cy wide high : ℕ) : Type 0 where
  pub across : cx + wide ≤ 4
  pub down : cy + high ≤ 4
  pub wide_some : 0 < wide
  pub high_some : 0 < high
  pub left : cx % wide ≡ 0
  pub top : cy % high ≡ 0
