-- What one record's work leaves.
-- Assumes nothing.
use Rattle.std.specs.Prelude.{◌≡◌, List, ℕ, ◌+◌, drop}
use Rattle.refusal.specs.Got.{got}
use Rattle.record.specs.Record.{Record}
use Rattle.record.specs.Parse.{parse_record}
use Rattle.state.specs.State.{State}
use Rattle.macroblock.specs.Decode.{applied}

-- one record's work, from the state s at a place of the bytes to t at the next, where there is one to be read
pub record Stepped (bytes : List ℕ) (at next : ℕ) (s t : State) : Type 0 where
  pub moved : (r : Record) (n : ℕ) → parse_record s.cols s.rows (drop at bytes) ≡ got r n → next ≡ at + n
  pub leaves : (r : Record) (n : ℕ) → parse_record s.cols s.rows (drop at bytes) ≡ got r n → t ≡ applied s r
