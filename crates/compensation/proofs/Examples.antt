-- Document 01's examples, computed.
-- Assumes nothing.
use mathlib.Core.Path.{◌≡◌, refl}
use mathlib.Core.List.{[], ◌∷◌}
use lib.IntN.{pos, negsuc}
use Rattle.ints.specs.Z.{when◌then◌else◌, clamp_z, floor_z, mod_z}
use Rattle.compensation.specs.Formula.{along, third2d, formula}
use Rattle.compensation.specs.Sample.{nearest, tap, sample_at, block_sample}
use Rattle.compensation.specs.Block.{halved}

-- taps 0 and 255: a third and two thirds of the way, across and down
pub thirds : (formula 2 0 0 255 0 0 ≡ 85) × (formula 4 0 0 255 0 0 ≡ 170) × (formula 0 2 0 0 255 0 ≡ 85) × (formula 0 4 0 0 255 0 ≡ 170)
unfolding formula along third2d when◌then◌else◌
thirds = (refl, refl, refl, refl)

-- a vertical phase of 3 with a horizontal one of 1: halfway down, then a third across
pub three-with-other : formula 1 3 0 100 1 101 ≡ 34
unfolding formula along third2d when◌then◌else◌
three-with-other = refl

-- luma splits by floor: -1 is sample -1, phase 5
pub split : (floor_z (negsuc 0) 6 ≡ negsuc 0) × (mod_z (negsuc 0) 6 ≡ 5)
unfolding floor_z mod_z
split = (refl, refl)

-- chroma halves toward zero: -1 becomes 0, -3 becomes -1; a half-pel vector (3, 6) has the chroma phases (1, 3)
pub halves : (halved (negsuc 0) ≡ pos 0) × (halved (negsuc 2) ≡ negsuc 0) × (mod_z (halved (pos 3)) 6 ≡ 1) × (mod_z (halved (pos 6)) 6 ≡ 3)
unfolding floor_z mod_z
halves = (refl, refl, refl, refl)

-- a plane of 2 × 2: the block of one sample at its corner, moved by (1, 3), and far past the left edge
pub moved : (block_sample (0 ∷ 100 ∷ 1 ∷ 101 ∷ []) 2 2 (pos 0) (pos 0) (pos 1) (pos 3) 0 0 ≡ 34) × (block_sample (0 ∷ 100 ∷ 1 ∷ 101 ∷ []) 2 2 (negsuc 2147483647) (pos 1) (negsuc 2147483647) (pos 0) 0 0 ≡ 1)
unfolding block_sample sample_at tap nearest clamp_z floor_z mod_z formula along third2d when◌then◌else◌
moved = (refl, refl)
