-- What `parse_record` answers and leaves, said of the definitions, for its callers.
-- Assumes nothing.
use mathlib.Core.Path.{◌≡◌}
use mathlib.Core.List.{List}
use Prim.Native.Nat.{ℕ}
use lib.IntN.{ℤ}
use Rattle.refusal.specs.Got.{Got, refused}
use Rattle.refusal.specs.declared.Refusal.{Refusal}
use Rattle.refusal.proofs.Answered.{Answered}
use Rattle.record.specs.Record.{Record}
use Rattle.record.specs.InnerRecord.{record_of}
use Rattle.record.specs.declared.Head.{Head}
use Rattle.record.proofs.Answers.{answered-record, refused-record}
use Rattle.transcript.specs.InnerParsing.{Parsing}
use Rattle.std.specs.Prelude.{Ok, Err}

pub parsed : (at : ℕ) (g : Got Record) (h : Head) (next : ℕ) (vs ls : List ℤ) → Parsing at g (Ok (h, next)) vs ls → Answered at g (record_of h vs ls) next
parsed at g h next vs ls p = answered-record at g h next vs ls p.answers p.leaves

pub parse-refused : (at : ℕ) (g : Got Record) (r : Refusal) (vs ls : List ℤ) → Parsing at g (Err r) vs ls → g ≡ refused r
parse-refused at g r vs ls p = refused-record at g r p.answers
