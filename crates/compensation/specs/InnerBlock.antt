-- Planes with a sample for each place, and spans of 1 to 16.
-- Assumes nothing.
use Rattle.std.specs.Prelude.{◌≡◌, ℕ, ◌*◌, ◌<◌, ◌≤◌}

-- a plane with a sample for each of its places
pub record Whole (width height size : ℕ) : Type 0 where
  pub columns : (0 < width) × (width ≤ 65536)
  pub lines : (0 < height) × (height ≤ 65536)
  pub all : size ≡ width * height

-- spans that a partition, or a block asked for alone, may have
pub record Span (w h : ℕ) : Type 0 where
  pub across : (0 < w) × (w ≤ 16)
  pub down : (0 < h) × (h ≤ 16)
