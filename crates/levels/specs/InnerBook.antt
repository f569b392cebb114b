-- A code of a book, as the code finds it.
-- Assumes nothing.
use Rattle.std.specs.Prelude.{ℕ, ◌<◌, nat_abs}
use Rattle.bits.specs.Code.{CodeRange}
use Rattle.levels.specs.declared.svq3_coeff.ResidualBook.{ResidualBook}
use Rattle.levels.specs.Book.{LevelRun}
use Rattle.std.specs.Prelude.{Some, None}
use Rattle.levels.specs.Book.{positions, code_of_level}

unfoldable pub code_of : ResidualBook → LevelRun → ℕ
code_of book None = 0
code_of book (Some (l, r)) = code_of_level book l r

-- what a code can say: a level other than 0, a run of the book, and a code of at most 31 data bits
abbrev pub InBook : ResidualBook → LevelRun → Type 0
InBook book None = Unit {0}
InBook book (Some (l, r)) = (0 < nat_abs l) × (r < positions book) × CodeRange (code_of_level book l r)
