-- Document 01's sixteen cases, computed from the definitions that the contracts cite, as one statement.
-- Assumes nothing.
use mathlib.Core.Path.{◌≡◌, refl}
use mathlib.Core.Bool.{true, false}
use mathlib.Core.List.{[], ◌∷◌}
use lib.IntN.{pos, negsuc}
use lib.ListN.{replicate}
use Rattle.ints.specs.Z.{when◌then◌else◌, sat_z, clamp_z, floor_z}
use Rattle.refusal.specs.Got.{got}
use Rattle.bits.specs.Code.{code, code_from}
use Rattle.bits.specs.Signed.{signed_of}
use Rattle.levels.specs.Book.{resolve, level, level_of, magnitude, magnitudes, run, runs, escape_magnitude, least, chroma_base}
use Rattle.levels.specs.declared.svq3_coeff.ResidualBook.TheVariants.{NormalScan, ChromaDc}
use Rattle.std.specs.Prelude.{Some}
use Rattle.vectors.specs.Units.{convert_predictor, round_to_sixths}
use Rattle.vectors.specs.declared.svq3_mb.Svq3MvPrecision.TheVariants.{Fullpel}
use Rattle.compensation.specs.Formula.{along, formula}
use Rattle.transform.specs.Tables.{dequant_coeff}
use Rattle.transform.specs.Residual.{placed, listed, scaled, sum_of, weighed, rows_of, columns_of, rounded, residual}

pub sixteen_cases :
    (code (true ∷ []) ≡ got 0 1)
    × (code (false ∷ false ∷ true ∷ []) ≡ got 1 3)
    × (code (false ∷ false ∷ false ∷ false ∷ true ∷ []) ≡ got 3 5)
    × (code (false ∷ true ∷ false ∷ true ∷ true ∷ []) ≡ got 6 5)
    × (signed_of 3 ≡ pos 2)
    × (signed_of 4 ≡ negsuc 1)
    × (resolve NormalScan 31 ≡ Some (pos 5, 0))
    × (resolve NormalScan 33 ≡ Some (pos 3, 1))
    × (resolve ChromaDc 23 ≡ Some (pos 5, 0))
    × (resolve ChromaDc 25 ≡ Some (pos 4, 1))
    × (convert_predictor Fullpel (negsuc 2) ≡ pos 0)
    × (convert_predictor Fullpel (negsuc 3) ≡ negsuc 0)
    × (along 2 0 255 ≡ 85)
    × (along 4 0 255 ≡ 170)
    × (formula 1 3 0 100 1 101 ≡ 34)
    × (listed (residual (dequant_coeff 0) (pos 0) (placed (negsuc 0 ∷ []) 0)) ≡ replicate 16 (negsuc 0))
unfolding code code_from signed_of resolve level level_of magnitude magnitudes run runs escape_magnitude least chroma_base convert_predictor round_to_sixths along formula dequant_coeff placed scaled sum_of weighed rows_of columns_of rounded residual listed when◌then◌else◌ sat_z clamp_z floor_z
sixteen_cases = (refl, refl, refl, refl, refl, refl, refl, refl, refl, refl, refl, refl, refl, refl, refl, refl)
