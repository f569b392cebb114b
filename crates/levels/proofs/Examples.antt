-- Worked examples, computed: document 01's, and a list at its edges.
-- Assumes nothing.
use mathlib.Core.Path.{◌≡◌, refl}
use mathlib.Core.Bool.{true, false}
use mathlib.Core.List.{[], ◌∷◌, ◌++◌}
use lib.IntN.{pos, negsuc}
use Rattle.refusal.specs.Got.{got, refused}
use Rattle.refusal.specs.declared.Refusal.TheVariants.{Truncated, InvalidFrameCode, LevelPosition}
use Rattle.bits.specs.Code.{code, code_from, code_bits, marked, places_in}
use Rattle.levels.specs.Lists.{place_of, list_of}
use Rattle.levels.specs.Pattern.{patterns, pattern, quadrant_coded, class_of}
use Rattle.levels.specs.Book.{magnitudes, runs, least, chroma_base, escape_magnitude, magnitude, run, level_of, level, resolve, entry_of, escape_code, odd_code, code_of_level}
use Rattle.levels.specs.Scan.{scan, raster}
use Rattle.levels.specs.Levels.{zeros, level_run, levels_from, levels, level_bits, block}
use Rattle.levels.specs.declared.svq3_coeff.ResidualBook.TheVariants.{NormalScan, ChromaDc}
use Rattle.std.specs.Prelude.{Some, None}

pub books :
    (resolve NormalScan 0 ≡ None)
    × (resolve NormalScan 31 ≡ Some (pos 5, 0))
    × (resolve NormalScan 33 ≡ Some (pos 3, 1))
    × (resolve NormalScan 30 ≡ Some (negsuc 3, 0))
    × (resolve ChromaDc 23 ≡ Some (pos 5, 0))
    × (resolve ChromaDc 25 ≡ Some (pos 4, 1))
    × (code_of_level NormalScan (pos 3) 1 ≡ 33)
    × (code_of_level NormalScan (negsuc 3) 0 ≡ 30)
    × (code_of_level ChromaDc (pos 4) 1 ≡ 25)
unfolding resolve level level_of magnitude run magnitudes runs least chroma_base escape_magnitude code_of_level odd_code escape_code entry_of
books = (refl, refl, refl, refl, refl, refl, refl, refl, refl)

-- code 47 is pattern 41: luma 9 has quadrants 0 and 3, chroma class 2. Code 48 has no entry
pub pattern-codes :
    (pattern (code_bits 47) ≡ got 41 11)
    × (pattern (code_bits 48) ≡ refused (InvalidFrameCode 48))
    × (class_of 41 ≡ 2)
    × (quadrant_coded 41 0 ≡ true)
    × (quadrant_coded 41 1 ≡ false)
    × (quadrant_coded 41 2 ≡ false)
    × (quadrant_coded 41 3 ≡ true)
unfolding pattern patterns code code_from code_bits marked places_in quadrant_coded
pattern-codes = (refl, refl, refl, refl, refl, refl, refl)

-- code 61 is level 1 after 15 zeros, the last position: the end code is still due, and a level there is past the end; so is 61 from position 1 on
pub list-ends :
    (levels NormalScan 0 (code_bits 61 ++ code_bits 0) ≡ got (zeros 15 ++ pos 1 ∷ []) 12)
    × (levels NormalScan 0 (code_bits 61) ≡ refused Truncated)
    × (levels NormalScan 0 (code_bits 61 ++ code_bits 1) ≡ refused (LevelPosition 16))
    × (levels NormalScan 1 (code_bits 61 ++ code_bits 0) ≡ refused (LevelPosition 16))
    × (level_bits NormalScan 0 (zeros 15 ++ pos 1 ∷ []) ≡ code_bits 61 ++ code_bits 0)
unfolding levels levels_from level_run level_bits code code_from code_bits marked places_in resolve level level_of magnitude run magnitudes runs least escape_magnitude code_of_level odd_code escape_code entry_of
list-ends = (refl, refl, refl, refl, refl)

-- positions 0, 1 and 2 are raster places 0, 1 and 4; an AC list starts at place 1
pub placed :
    (block NormalScan 0 (code_bits 1 ++ code_bits 2 ++ code_bits 7 ++ code_bits 0) ≡ got (pos 1 ∷ negsuc 0 ∷ pos 0 ∷ pos 0 ∷ pos 2 ∷ zeros 11) 14)
    × (block NormalScan 1 (code_bits 1 ++ code_bits 2 ++ code_bits 0) ≡ got (pos 0 ∷ pos 1 ∷ pos 0 ∷ pos 0 ∷ negsuc 0 ∷ zeros 11) 7)
    × (block ChromaDc 0 (code_bits 5 ++ code_bits 0) ≡ got (pos 0 ∷ pos 1 ∷ pos 0 ∷ pos 0 ∷ []) 6)
unfolding block raster list_of place_of scan levels levels_from level_run code code_from code_bits marked places_in resolve level level_of magnitude run magnitudes runs
placed = (refl, refl, refl)
