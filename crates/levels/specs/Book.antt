-- The two (level, run) books: what each code says, and the code that says a level and a run.
-- Assumes nothing.
use Rattle.std.specs.Prelude.{cond, ◌&&◌, List, [], ◌∷◌, ℕ, suc, ◌+◌, ◌-◌, ◌*◌, ◌/◌, ◌%◌, eqb, ltb, ℤ, pos, negsuc, neg_ℤ, get_or, Option, Some, None}
use Rattle.bits.specs.Bits.{odd}
use Rattle.levels.specs.declared.svq3_coeff.ResidualBook.{ResidualBook}
use Rattle.levels.specs.declared.svq3_coeff.ResidualBook.TheVariants.{NormalScan, ChromaDc}

-- codes 2 h - 1 and 2 h say one magnitude and one run: their h
abbrev pub half : ℕ → ℕ
half k = (k + 1) / 2

-- the tables, by half the code; entry 0 is the end of a list
unfoldable pub magnitudes : ResidualBook → List ℕ
magnitudes NormalScan = 0 ∷ 1 ∷ 1 ∷ 1 ∷ 2 ∷ 1 ∷ 1 ∷ 1 ∷ 3 ∷ 2 ∷ 2 ∷ 1 ∷ 1 ∷ 1 ∷ 1 ∷ 4 ∷ []
magnitudes ChromaDc = 0 ∷ 1 ∷ 2 ∷ 1 ∷ 3 ∷ 2 ∷ 1 ∷ 1 ∷ 4 ∷ 3 ∷ 2 ∷ 2 ∷ []

unfoldable pub runs : ResidualBook → List ℕ
runs NormalScan = 0 ∷ 0 ∷ 1 ∷ 2 ∷ 0 ∷ 3 ∷ 4 ∷ 5 ∷ 0 ∷ 1 ∷ 2 ∷ 6 ∷ 7 ∷ 8 ∷ 9 ∷ 0 ∷ []
runs ChromaDc = 0 ∷ 0 ∷ 0 ∷ 1 ∷ 0 ∷ 1 ∷ 2 ∷ 3 ∷ 0 ∷ 1 ∷ 2 ∷ 3 ∷ []

-- the first code above the tables
abbrev pub escape : ResidualBook → ℕ
escape NormalScan = 31
escape ChromaDc = 23

-- the positions of a list: runs are below their number, and an escape's run is its half modulo it
abbrev pub positions : ResidualBook → ℕ
positions NormalScan = 16
positions ChromaDc = 4

-- by run: the least magnitude that an escape says
unfoldable pub least : ResidualBook → List ℕ
least NormalScan = 5 ∷ 3 ∷ 3 ∷ 2 ∷ 2 ∷ 2 ∷ 2 ∷ 2 ∷ 2 ∷ 2 ∷ 1 ∷ 1 ∷ 1 ∷ 1 ∷ 1 ∷ 1 ∷ []
least ChromaDc = 5 ∷ 4 ∷ 3 ∷ 3 ∷ []

-- by run: the code from which an escape of the chroma DC book counts magnitude 3 on
unfoldable pub chroma_base : List ℕ
chroma_base = 7 ∷ 17 ∷ 27 ∷ 29 ∷ []

-- the magnitude of an escape of a run
unfoldable pub escape_magnitude : ResidualBook → ℕ → ℕ → ℕ
escape_magnitude NormalScan r k = (k - 31) / 32 + get_or (least NormalScan) r 0
escape_magnitude ChromaDc r k = (k - get_or chroma_base r 0) / 8 + 3

-- the run and the magnitude of a code: an entry's below the escape, an escape's from it on
unfoldable pub run : ResidualBook → ℕ → ℕ
run book k = cond (ltb k (escape book)) (get_or (runs book) (half k) 0) (half k % positions book)

unfoldable pub magnitude : ResidualBook → ℕ → ℕ
magnitude book k = cond (ltb k (escape book)) (get_or (magnitudes book) (half k) 0) (escape_magnitude book (half k % positions book) k)

-- a magnitude with the sign of its code: odd codes are positive
unfoldable pub level_of : ℕ → ℕ → ℤ
level_of k m = cond (odd k) (pos m) (neg_ℤ (pos m))

unfoldable pub level : ResidualBook → ℕ → ℤ
level book k = level_of k (magnitude book k)

-- what a code says: a level and the number of positions that it leaves out before it; none says the end of the list
abbrev pub LevelRun : Type 0
LevelRun = Option (ℤ × ℕ)

-- what code k says
unfoldable pub resolve : ResidualBook → ℕ → LevelRun
resolve book k = cond (eqb k 0) None (Some (level book k, run book k))

-- ---- the other way
-- the first entry that has the magnitude m and the run r
unfoldable pub entry_of : ℕ → ℕ → List ℕ → List ℕ → ℕ
entry_of m r (x ∷ xs) (y ∷ ys) = cond (eqb m x && eqb r y) 0 (suc (entry_of m r xs ys))
entry_of m r [] ys = 0
entry_of m r (x ∷ xs) [] = 0

-- the odd code of an escape
unfoldable pub escape_code : ResidualBook → ℕ → ℕ → ℕ
escape_code NormalScan m r = 32 * (m - get_or (least NormalScan) r 0) + 31 + 2 * r
escape_code ChromaDc m r = 8 * (m - 3) + get_or chroma_base r 0

-- the odd code of a magnitude and a run
unfoldable pub odd_code : ResidualBook → ℕ → ℕ → ℕ
odd_code book m r = cond (ltb m (get_or (least book) r 0)) (2 * entry_of m r (magnitudes book) (runs book) - 1) (escape_code book m r)

-- the code that says a level and a run
unfoldable pub code_of_level : ResidualBook → ℤ → ℕ → ℕ
code_of_level book (pos m) r = odd_code book m r
code_of_level book (negsuc m) r = odd_code book (suc m) r + 1
