-- The difference that moves a predictor to a stored component, where nothing was clipped.
-- Assumes nothing.
use Rattle.std.specs.Prelude.{ℤ, ◌-ℤ◌}
use Rattle.ints.specs.Z.{toward_zero}
use Rattle.vectors.specs.Units.{convert_predictor, stored_scale}
use Rattle.vectors.specs.declared.svq3_mb.Svq3MvPrecision.{Svq3MvPrecision}

-- v in units, less the predictor p in units
unfoldable pub difference_of : Svq3MvPrecision → ℤ → ℤ → ℤ
difference_of precision p v = toward_zero v (stored_scale precision) -ℤ convert_predictor precision p
