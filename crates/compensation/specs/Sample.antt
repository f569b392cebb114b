-- The sample at a position in sixths, on a plane whose edges repeat without end.
-- Assumes nothing.
use Rattle.std.specs.Prelude.{List, ℕ, ◌+◌, ◌-◌, ◌*◌, ℤ, pos, nat_abs, ◌+ℤ◌, ◌*ℤ◌, get_or}
use Rattle.ints.specs.Z.{clamp_z, floor_z, mod_z}
use Rattle.compensation.specs.Formula.{formula}

-- the nearest of n columns, or rows, to z
unfoldable pub nearest : ℕ → ℤ → ℕ
nearest n z = nat_abs (clamp_z (pos 0) (pos (n - 1)) z)

-- the sample at column x of row y, either of them anywhere
unfoldable pub tap : List ℕ → ℕ → ℕ → ℤ → ℤ → ℕ
tap plane width height x y = get_or plane (nearest height y * width + nearest width x) 0

-- the sample at p sixths across and q down: taps from the whole samples, mixed by the phases
unfoldable pub sample_at : List ℕ → ℕ → ℕ → ℤ → ℤ → ℕ
sample_at plane width height p q =
    let x = floor_z p 6 in
    let y = floor_z q 6 in
    let s = tap plane width height in
    formula (mod_z p 6) (mod_z q 6) (s x y) (s (x +ℤ pos 1) y) (s x (y +ℤ pos 1)) (s (x +ℤ pos 1) (y +ℤ pos 1))

-- v sixths past a place
abbrev pub sixths : ℤ → ℤ → ℤ
sixths place v = pos 6 *ℤ place +ℤ v

-- column c of row r of the block at (x, y) with the vector (vx, vy)
unfoldable pub block_sample : List ℕ → ℕ → ℕ → ℤ → ℤ → ℤ → ℤ → ℕ → ℕ → ℕ
block_sample plane width height x y vx vy r c = sample_at plane width height (sixths (x +ℤ pos c) vx) (sixths (y +ℤ pos r) vy)
