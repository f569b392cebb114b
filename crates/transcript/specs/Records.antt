-- The records of a transcript. A transcript ends where its bytes end.
-- Assumes nothing.
use Rattle.std.specs.Prelude.{List, ℕ, length}
use Rattle.refusal.specs.Got.{Got}
use Rattle.refusal.specs.Until.{until_end}
use Rattle.record.specs.Record.{Record}
use Rattle.record.specs.Parse.{parse_record}

unfoldable pub records_in : ℕ → ℕ → ℕ → List ℕ → Got (List Record)
records_in cols rows = until_end (parse_record cols rows)

-- a record has a byte at least
unfoldable pub records : ℕ → ℕ → List ℕ → Got (List Record)
records cols rows s = records_in cols rows (length s) s
