-- The transcript check: from the grid and the bytes it asks 1, then 14 and 15, and answers the number of records.
-- Assumes nothing.
use Rattle.std.specs.Prelude.{List, ℕ, length, Result, Ok, Err}
use Rattle.ints.specs.Z.{when◌then◌else◌}
use Rattle.refusal.specs.Got.{Got, got, refused}
use Rattle.refusal.specs.declared.Refusal.TheVariants.{GridSize}
use Rattle.state.specs.Questions.{grid_right}
use Rattle.record.specs.Record.{Record}
use Rattle.transcript.specs.Records.{records}
use Rattle.refusal.specs.declared.Refusal.{Refusal}

abbrev pub check_answer : Got (List Record) → Result ℕ Refusal
check_answer (got rs n) = Ok (length rs)
check_answer (refused why) = Err why

unfoldable pub checked : ℕ → ℕ → List ℕ → Result ℕ Refusal
checked cols rows bytes = when grid_right cols rows then check_answer (records cols rows bytes) else Err GridSize
