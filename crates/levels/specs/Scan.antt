-- Levels by scan position and by raster place.
-- Assumes nothing.
use Rattle.std.specs.Prelude.{List, [], ◌∷◌, ℕ, ℤ, pos, get_or}
use Rattle.levels.specs.Lists.{place_of, list_of}
use Rattle.levels.specs.Book.{positions}
use Rattle.levels.specs.declared.svq3_coeff.ResidualBook.{ResidualBook}
use Rattle.levels.specs.declared.svq3_coeff.ResidualBook.TheVariants.{NormalScan, ChromaDc}

-- the raster place of each position: the zigzag of a 4×4 block, the quadrants by rows
unfoldable pub scan : ResidualBook → List ℕ
scan NormalScan = 0 ∷ 1 ∷ 4 ∷ 8 ∷ 5 ∷ 2 ∷ 3 ∷ 6 ∷ 9 ∷ 12 ∷ 13 ∷ 10 ∷ 7 ∷ 11 ∷ 14 ∷ 15 ∷ []
scan ChromaDc = 0 ∷ 1 ∷ 2 ∷ 3 ∷ []

-- levels by position, put by raster place: place p has the level of the position whose entry of the scan is p
unfoldable pub raster : ResidualBook → List ℤ → List ℤ
raster book ls = list_of (positions book) (λ p. get_or ls (place_of p (scan book)) (pos 0))

-- levels by raster place, put by position
unfoldable pub unraster : ResidualBook → List ℤ → List ℤ
unraster book bs = list_of (positions book) (λ n. get_or bs (get_or (scan book) n 0) (pos 0))
