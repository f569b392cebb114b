-- A component in the precision's unit: the predictor turned to units, moved by the difference that was read, and back to sixths.
-- Assumes nothing.
use Rattle.std.specs.Prelude.{Bool, ◌||◌, ℕ, ℤ, pos, ◌+ℤ◌, ◌-ℤ◌, ◌*ℤ◌}
use Rattle.std.specs.Int.Signed.{lt_z}
use Rattle.ints.specs.Z.{when◌then◌else◌, floor_z, toward_zero, sat_z, over_z}
use Rattle.vectors.specs.declared.svq3_mb.Svq3MvPrecision.{Svq3MvPrecision}
use Rattle.vectors.specs.declared.svq3_mb.Svq3MvPrecision.TheVariants.{Fullpel, Halfpel, Thirdpel}

-- v / 6 rounded: (v + 3) / 6, or (v - 2) / 6 below 0, toward zero
unfoldable pub round_to_sixths : ℤ → ℤ
round_to_sixths v = when lt_z v (pos 0) then toward_zero (v -ℤ pos 2) 6 else toward_zero (v +ℤ pos 3) 6

-- a predictor in sixths as a number of the precision's units
unfoldable pub convert_predictor : Svq3MvPrecision → ℤ → ℤ
convert_predictor Fullpel p = round_to_sixths p
convert_predictor Halfpel p = round_to_sixths (pos 2 *ℤ p)
convert_predictor Thirdpel p = floor_z (p +ℤ pos 1) 2

-- how many sixths a unit is
abbrev pub stored_scale : Svq3MvPrecision → ℕ
stored_scale Fullpel = 6
stored_scale Halfpel = 3
stored_scale Thirdpel = 2

-- ---- predictor p moved by difference d: sum and product each saturate, and the component is clipped when one of them had to

-- the exact sum
unfoldable pub summed : Svq3MvPrecision → ℤ → ℤ → ℤ
summed precision p d = convert_predictor precision p +ℤ d

-- the exact product of the saturated sum
unfoldable pub scaled : Svq3MvPrecision → ℤ → ℤ → ℤ
scaled precision p d = sat_z (summed precision p d) *ℤ pos (stored_scale precision)

unfoldable pub stored_part : Svq3MvPrecision → ℤ → ℤ → ℤ
stored_part precision p d = sat_z (scaled precision p d)

unfoldable pub clipped_part : Svq3MvPrecision → ℤ → ℤ → Bool
clipped_part precision p d = over_z (summed precision p d) || over_z (scaled precision p d)
