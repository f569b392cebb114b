-- What the reader of a list of calls answers.
-- Assumes nothing.
use Rattle.std.specs.Prelude.{List, ℕ, length, Result, Ok, Err}
use Rattle.refusal.specs.Got.{Got, got, refused}
use Rattle.refusal.specs.declared.Refusal.{Refusal}
use Rattle.state.specs.declared.Call.{Call}

-- how many there are
abbrev pub calls_answer : Got (List Call) → Result ℕ Refusal
calls_answer (got cs n) = Ok (length cs)
calls_answer (refused why) = Err why
