-- What the readers of a record answer and leave.
-- Assumes nothing.
use Rattle.std.specs.Prelude.{◌≡◌, List, ℕ, eqb, ℤ, Result}
use Rattle.ints.specs.Z.{when◌then◌else◌}
use Rattle.refusal.specs.Got.{Got, got, map_got}
use Rattle.refusal.specs.Answered.{answered}
use Rattle.refusal.specs.declared.Refusal.{Refusal}
use Rattle.record.specs.Record.{Record}
use Rattle.record.specs.declared.Head.{Head}
use Rattle.transcript.specs.declared.parse.RecordStart.{RecordStart}
use Rattle.transcript.specs.declared.parse.RecordStart.TheVariants.{Skip, Coded}

-- of a reader of a record that started at a place: the record's head
abbrev pub parse_answer : ℕ → Got Record → Result (Head × ℕ) Refusal
parse_answer at read = answered at (map_got (λ r. r.head) read)

-- what a head says where it was read as far as the mode: a record of mode 0 is a skip
unfoldable pub start_of : Head → RecordStart
start_of h = when eqb h.mode 0 then Skip h.column h.row else Coded h

-- of a reader that stops behind the mode
abbrev pub place_answer : ℕ → Got Head → Result (RecordStart × ℕ) Refusal
place_answer at read = answered at (map_got start_of read)

-- the answer of a reader of a record, and the vectors and levels that it leaves, which are the record's where it has one
pub record Parsing (at : ℕ) (read : Got Record) (answer : Result (Head × ℕ) Refusal) (vectors levels : List ℤ) : Type 0 where
  pub answers : answer ≡ parse_answer at read
  pub leaves : (r : Record) (n : ℕ) → read ≡ got r n → (vectors ≡ r.vectors) × (levels ≡ r.levels)
