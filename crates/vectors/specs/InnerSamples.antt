-- A sample in the precision's units: contracts of inner functions. proofs/Moves.antt ties it to specs/Units.antt.
-- Assumes nothing.
use Rattle.std.specs.Prelude.{ℕ}
use Rattle.vectors.specs.declared.svq3_mb.Svq3MvPrecision.{Svq3MvPrecision}
use Rattle.vectors.specs.declared.svq3_mb.Svq3MvPrecision.TheVariants.{Fullpel, Halfpel, Thirdpel}

-- how many units a sample is
abbrev pub units_in_sample : Svq3MvPrecision → ℕ
units_in_sample Fullpel = 1
units_in_sample Halfpel = 2
units_in_sample Thirdpel = 3
