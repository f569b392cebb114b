-- Lists of one kind that stand side by side, read. proofs/Sides.antt ties them to Items.antt.
-- Assumes nothing.
use Rattle.std.specs.Prelude.{Bool, List, ℕ, zero, suc, ◌+◌, ℤ}
use Rattle.std.proofs.lemmas.List.Edits.{sets}
use Rattle.refusal.specs.Got.{Got, got, and_then}
use Rattle.levels.specs.Book.{positions}
use Rattle.levels.specs.Levels.{block}
use Rattle.levels.specs.declared.svq3_coeff.ResidualBook.{ResidualBook}

-- n lists of a book, each from position `start` on, are read and put side by side from a place on
unfoldable pub read_side : ResidualBook → ℕ → ℕ → ℕ → List ℤ → List Bool → Got (List ℤ)
read_side book start zero place levels s = got levels 0
read_side book start (suc n) place levels s = and_then (block book start s) s (λ found rest. read_side book start n (place + positions book) (sets levels place found) rest)
