-- One record: none is there, a skip, or another one.
-- Assumes nothing.
use mathlib.Core.Path.{◌≡◌, sym, ap, ◌∙◌}
use mathlib.Core.List.{List}
use Prim.Native.Nat.{ℕ, ◌+◌, ◌≤◌, ◌<◌}
use native.Mathlib.Omega.{arith}
use lib.IntN.{ℤ}
use lib.ListN.{drop}
use Rattle.ints.specs.Z.{when◌then◌else◌}
use Rattle.refusal.specs.Got.{Got, got, refused}
use Rattle.refusal.proofs.Answered.{Answered}
use Rattle.refusal.proofs.Formats.{got-value, got-count, never}
use Rattle.refusal.specs.declared.Refusal.{Refusal}
use Rattle.record.specs.Record.{Record, skip_record}
use Rattle.record.specs.InnerRecord.{record_of}
use Rattle.record.specs.Parse.{parse_motion, parse_record}
use Rattle.record.specs.Range.{RecordRange}
use Rattle.record.specs.declared.Head.{Head}
use Rattle.record.proofs.Padded.{used-most}
use Rattle.record.proofs.Records.{motion-format, record-format}
use Rattle.transcript.specs.InnerParsing.{place_answer, Parsing}
use Rattle.transcript.specs.InnerPlace.{parse_place}
use Rattle.std.specs.Prelude.{Result, Ok, Err}
use Rattle.transcript.specs.declared.parse.RecordStart.TheVariants.{Skip, Coded}
use Rattle.transcript.proofs.Answers.{parsed, parse-refused}
use Rattle.transcript.proofs.Places.{not-read, skip_read, coded-read, coded-parsed}
use Rattle.picture.specs.InnerLent.{Slices}
use Rattle.state.specs.State.{State}
use Rattle.macroblock.specs.Decode.{applied, quantiser_after}
use Rattle.macroblock.proofs.Laws.{changed, slices_by, coded-quantiser}
use Rattle.replay.specs.InnerStepped.{Stepped}

module _ (s : State) (bytes : List ℕ) (at : ℕ) where
  abbrev read : Got Record
  read = parse_record s.cols s.rows (drop at bytes)

  -- none is there
  none : (why : Refusal) → read ≡ refused why → (next : ℕ) (t : State) → Stepped bytes at next s t
  none why e next t = record { moved = λ r n f. never (sym e ∙ f); leaves = λ r n f. never (sym e ∙ f) }

  pub no_place : (why : Refusal) → Err why ≡ place_answer at (parse_place s.cols s.rows (drop at bytes)) → (next : ℕ) (t : State) → Stepped bytes at next s t
  no_place why e = none why (not-read s.cols s.rows bytes at why e)

  -- one is
  done : (x : Record) (k next : ℕ) → read ≡ got x k → next ≡ at + k → (t : State) → t ≡ applied s x → Stepped bytes at next s t
  done x k next e m t w = record { moved = λ r n f. m ∙ ap (λ (j : ℕ). at + j) (got-count (sym e ∙ f)); leaves = λ r n f. w ∙ ap (applied s) (got-value (sym e ∙ f)) }

  -- a skip
  pub skip_step : (column row next : ℕ) → Ok (Skip column row, next) ≡ place_answer at (parse_place s.cols s.rows (drop at bytes)) → (t : State) → t ≡ applied s (skip_record column row)
      → Stepped bytes at next s t
  skip_step column row next e = let r = skip_read s.cols s.rows bytes at column row next e in done (skip_record column row) r.taken next r.is r.moved

  -- another one, whose motion was read
  module _ (h : Head) (next : ℕ) (e : Ok (Coded h, next) ≡ place_answer at (parse_place s.cols s.rows (drop at bytes))) (a : Result (Head × ℕ) Refusal) (vs ls : List ℤ) (p : Parsing next (parse_motion h (drop next bytes)) a vs ls) where
    whole_is : Parsing at read a vs ls
    whole_is = coded-parsed s.cols s.rows bytes at h next e a vs ls p

    pub no-motion : (why : Refusal) → a ≡ Err why → (end : ℕ) (t : State) → Stepped bytes at end s t
    no-motion why i = none why (parse-refused at read why vs ls (rw i at whole_is))

    module _ (o : Head) (end : ℕ) (i : a ≡ Ok (o, end)) where
      by : Answered at read (record_of o vs ls) end
      by = parsed at read o end vs ls (rw i at whole_is)

      pub coded-range : s.cols ≤ 4096 → s.rows ≤ 4096 → RecordRange s.cols s.rows (record_of o vs ls)
      coded-range wide high = ((record-format s.cols s.rows wide high).came (drop at bytes) (record_of o vs ls) by.taken by.is).in_range

      pub no-skip : 0 < o.mode
      no-skip =
          let c = coded-read s.cols s.rows bytes at h next e in
          let b = parsed next (parse_motion h (drop next bytes)) o end vs ls (rw i at p) in
          let k = ((motion-format h (used-most h.mode c.range.mode)).came (drop next bytes) (record_of o vs ls) b.taken b.is).in_range in
          omega (arith, ap (λ (x : Head). x.mode) k.rest.head, c.coded)

      pub coded-step : (t : State) → t ≡ applied s (record_of o vs ls) → Stepped bytes at end s t
      coded-step = done (record_of o vs ls) by.taken end by.is by.moved

-- the work of a record that is no skip, on the slices
pub applied-is : (s : State) (r : Record) {pic : Slices} → 0 < r.head.mode → pic ≡ slices_by s r → changed s r.head.quantiser pic ≡ applied s r
unfolding applied
applied-is s r h e = let q = sym (coded-quantiser s r h) in λ i. changed s (q i) (e i)

-- the same of a skip
pub skip-applied : (s : State) (column row : ℕ) {pic : Slices} → pic ≡ slices_by s (skip_record column row) → changed s s.quantiser pic ≡ applied s (skip_record column row)
unfolding applied quantiser_after skip_record when◌then◌else◌
skip-applied s column row e = λ i. changed s s.quantiser (e i)
