-- What `read_coded` answers and leaves, said of the definition, for its callers.
-- Assumes nothing.
use mathlib.Core.Path.{◌≡◌, ap, ◌∙◌}
use mathlib.Core.Bool.{Bool}
use mathlib.Core.List.{List}
use Prim.Native.Nat.{ℕ, ◌≤◌, ◌<◌}
use native.Mathlib.Omega.{arith}
use borrow.Author.Tests.{ne_eqb}
use lib.IntN.{ℤ}
use Rattle.ints.proofs.Fits.{if_no}
use Rattle.refusal.specs.Got.{Got, got, refused}
use Rattle.refusal.specs.declared.Refusal.{Refusal}
use Rattle.refusal.proofs.Answered.{Answered}
use Rattle.picture.specs.InnerPicture.{Within}
use Rattle.state.specs.declared.Call.{Call}
use Rattle.record.specs.Record.{Record}
use Rattle.record.specs.InnerRecord.{record_of}
use Rattle.record.specs.Range.{RecordRange, HeadRange}
use Rattle.record.specs.declared.Head.{Head}
use Rattle.record.proofs.Answers.{answered-record, refused-record}
use Rattle.record.proofs.Lengths.{head-range}
use Rattle.state.specs.State.{Context}
use Rattle.reading.specs.Read.{read_coded, read_macroblock}
use Rattle.reading.specs.InnerAnswers.{Reading}
use Rattle.std.specs.Prelude.{Ok, Err}
use Rattle.reading.proofs.Took.{read-range, read-call}

pub was_read : (at : ℕ) (g : Got Record) (h : Head) (next : ℕ) (vs ls : List ℤ) → Reading at g (Ok (h, next)) vs ls → Answered at g (record_of h vs ls) next
was_read at g h next vs ls p = answered-record at g h next vs ls p.answers p.leaves

pub read-refused : (at : ℕ) (g : Got Record) (r : Refusal) (vs ls : List ℤ) → Reading at g (Err r) vs ls → g ≡ refused r
read-refused at g r vs ls p = refused-record at g r p.answers

-- what is read of a macroblock that is no skip
pub read-coded : (c : Context) (call : Call) (s : List Bool) → 0 < call.mode → read_macroblock c call s ≡ read_coded c call s
unfolding read_macroblock
read-coded c call s h = if_no _ _ _ (ne_eqb call.mode 0 (omega arith))

-- IN RANGE: what was read of a call inside the grid is a record of the grid, no skip if the call is none, and its numbers fit where a record has room for them
module _ {cols rows : ℕ} (c : Context) (call : Call) (g : Within cols rows call.column call.row) (some : 0 < call.mode) (mode : call.mode ≤ 7) (most : c.quantiser ≤ 31)
    (s : List Bool) (at : ℕ) (h : Head) (next : ℕ) (vs ls : List ℤ) (p : Reading at (read_coded c call s) (Ok (h, next)) vs ls) where
  found : Answered at (read_coded c call s) (record_of h vs ls) next
  found = was_read at (read_coded c call s) h next vs ls p

  is_read : read_macroblock c call s ≡ got (record_of h vs ls) found.taken
  is_read = read-coded c call s some ∙ found.is

  pub read-in-range : RecordRange cols rows (record_of h vs ls)
  read-in-range = read-range c call cols rows s (record_of h vs ls) found.taken mode g.across g.down most is_read

  pub read-head-range : HeadRange h
  read-head-range = head-range cols rows (record_of h vs ls) g.wide g.high read-in-range

  pub read-no-skip : 0 < h.mode
  read-no-skip = omega (arith, ap (λ (x : Call). x.mode) (read-call c call s (record_of h vs ls) found.taken is_read))
