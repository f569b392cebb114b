-- How the code holds blocks: contracts of inner functions.
-- Assumes nothing.
use Rattle.std.specs.Prelude.{List, ℕ, ◌+◌, ◌*◌, ◌<◌, ℤ, pos, negsuc, ◌+ℤ◌, get_or}
use Rattle.std.specs.Int.Signed.{mag}
use Rattle.ints.specs.Z.{clamp_z, clip1_z}
use Rattle.transform.specs.Residual.{weighed, rounded}

-- columns for rows
unfoldable pub turned : (ℕ → ℕ → ℤ) → ℕ → ℕ → ℤ
turned x r c = x c r

-- a residual, held in -4,096 to 4,095: beyond 255 it makes no more difference
unfoldable pub short : ℤ → ℤ
short z = clamp_z (negsuc 4095) (pos 4095) z

-- of each residual
unfoldable pub shortened : (ℕ → ℕ → ℤ) → ℕ → ℕ → ℤ
shortened x r c = short (x r c)

-- the four numbers of row i by row k of the matrix
unfoldable pub weighed_row : ℕ → List ℤ → ℕ → ℤ
weighed_row k l i = weighed k (get_or l (4 * i) (pos 0)) (get_or l (4 * i + 1) (pos 0)) (get_or l (4 * i + 2) (pos 0)) (get_or l (4 * i + 3) (pos 0))

-- each number of a block, rounded with the block's DC
unfoldable pub finished : ℤ → (ℕ → ℕ → ℤ) → ℕ → ℕ → ℤ
finished dc t r c = rounded (t r c) dc

-- each number of an array of residuals leaves room for a sample in 16 bits
pub record Short (l : List ℤ) : Type 0 where
  pub small : (n : ℕ) → mag (get_or l n (pos 0)) < 4096

-- the sample at `at + c` and the residual at `from + c`, held in 0 to 255
unfoldable pub reconstructed_at : List ℕ → ℕ → List ℤ → ℕ → ℕ → ℕ
reconstructed_at plane at residual from c = clip1_z (pos (get_or plane (at + c) 0) +ℤ get_or residual (from + c) (pos 0))
