-- A macroblock within its grid, and planes of the grid's lengths.
-- Assumes nothing.
use Rattle.std.specs.Prelude.{◌≡◌, ℕ, ◌<◌, ◌≤◌}
use Rattle.picture.specs.Picture.{luma_length, chroma_length}

-- the macroblock lies in a grid of at most 4,096 macroblocks a side
pub record Within (cols rows column row : ℕ) : Type 0 where
  pub across : column < cols
  pub down : row < rows
  pub wide : cols ≤ 4096
  pub high : rows ≤ 4096

-- three planes have the lengths of the grid
pub record Sized (cols rows luma cb cr : ℕ) : Type 0 where
  pub luma_right : luma ≡ luma_length cols rows
  pub cb_right : cb ≡ chroma_length cols rows
  pub cr_right : cr ≡ chroma_length cols rows
