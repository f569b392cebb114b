-- The bytes of lists of one kind that stand side by side. proofs/SideBytes.antt ties them to Write.antt.
-- Assumes nothing.
use Rattle.std.specs.Prelude.{List, [], ◌++◌, ℕ, zero, suc, ◌+◌, ◌-◌, ℤ, take, drop}
use Rattle.levels.specs.Book.{positions}
use Rattle.levels.specs.declared.svq3_coeff.ResidualBook.{ResidualBook}
use Rattle.record.specs.Write.{signed_numbers}

-- their bytes
unfoldable pub side_bytes : ResidualBook → ℕ → ℕ → ℕ → List ℤ → List ℕ
side_bytes book start zero place levels = []
side_bytes book start (suc n) place levels = signed_numbers (take (positions book - start) (drop (place + start) levels)) ++ side_bytes book start n (place + positions book) levels
