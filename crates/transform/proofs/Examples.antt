-- The definitions at document 01's numbers, by computation.
-- Assumes nothing.
use mathlib.Core.Path.{◌≡◌, refl}
use mathlib.Core.List.{[], ◌∷◌, map}
use lib.IntN.{pos, negsuc}
use lib.ListN.{replicate}
use Rattle.ints.specs.Z.{when◌then◌else◌, clamp_z, sat_z, floor_z}
use Rattle.transform.specs.Tables.{dequant_coeff, chroma_quantiser_index, chroma_coeff}
use Rattle.transform.specs.Residual.{placed, listed, scaled, sum_of, weighed, rows_of, columns_of, rounded, residual}
use Rattle.transform.specs.InnerResidual.{no_levels}
use Rattle.transform.specs.ChromaDc.{sat_half, secondary, scaled_at, chroma_dc}

-- luma level -1 at place 0, quantiser 0: -1 in all sixteen
pub luma-level : listed (residual (dequant_coeff 0) (pos 0) (placed (negsuc 0 ∷ []) 0)) ≡ replicate 16 (negsuc 0)
unfolding listed residual rounded columns_of rows_of weighed sum_of scaled placed dequant_coeff floor_z sat_z clamp_z when◌then◌else◌
luma-level = refl

-- chroma DC levels 1, 0, 0, 0 at quantiser 31: 6 in each block
pub chroma-level : map (λ dc. residual (chroma_coeff 31) dc no_levels 0 0) (chroma_dc (chroma_coeff 31) (pos 1 ∷ pos 0 ∷ pos 0 ∷ pos 0 ∷ []) 0) ≡ replicate 4 (pos 6)
unfolding chroma_dc secondary sat_half scaled_at residual rounded columns_of rows_of weighed sum_of scaled no_levels chroma_coeff chroma_quantiser_index dequant_coeff floor_z sat_z clamp_z when◌then◌else◌
chroma-level = refl

-- half of -3 toward zero is -1
pub toward_zero_lem : secondary (negsuc 2) (pos 0) (pos 0) (pos 0) ≡ replicate 4 (negsuc 0)
unfolding secondary sat_half sat_z clamp_z when◌then◌else◌
toward_zero_lem = refl

-- the largest level saturates: 2147483647 at place 0, quantiser 0, takes every sum to the greatest i32, and the residual to 2,048
pub saturated : listed (residual (dequant_coeff 0) (pos 0) (placed (pos 2147483647 ∷ []) 0)) ≡ replicate 16 (pos 2048)
unfolding listed residual rounded columns_of rows_of weighed sum_of scaled placed dequant_coeff floor_z sat_z clamp_z when◌then◌else◌
saturated = refl
