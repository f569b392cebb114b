-- Laws of the records of a transcript: a record takes a byte at least, and the first record is in front of the records of the rest.
-- Assumes nothing.
use mathlib.Core.Path.{◌≡◌, refl, sym, ap, ◌∙◌}
use mathlib.Core.Bool.{true}
use mathlib.Core.List.{List, []}
use Prim.Native.Nat.{ℕ, ◌+◌, ◌≤◌, ◌<◌}
use native.Mathlib.Omega.{arith}
use lib.IntN.{ℤ}
use lib.ListN.{length, drop}
use Rattle.refusal.specs.Got.{Got, got, refused, after}
use Rattle.refusal.specs.declared.Refusal.{Refusal}
use Rattle.refusal.proofs.Formats.{bounded}
use Rattle.refusal.proofs.Lists.{Takes, First, Next, until_all, until-got, until-next, until_none, tally}
use Rattle.state.specs.Questions.{grid_right}
use Rattle.state.proofs.Laws.{grid-range}
use Rattle.record.specs.Record.{Record}
use Rattle.record.specs.Parse.{parse_motion, parse_record}
use Rattle.record.specs.declared.Head.{Head}
use Rattle.record.proofs.Records.{record-format}
use Rattle.record.proofs.Lengths.{record-some}
use Rattle.transcript.specs.InnerParsing.{Parsing}
use Rattle.refusal.specs.declared.Refusal.{Refusal}
use Rattle.std.specs.Prelude.{Result, Ok, Err}
use Rattle.transcript.proofs.Answers.{parsed, parse-refused}
use Rattle.transcript.proofs.Places.{CodedRead}
use Rattle.transcript.specs.Records.{records_in, records}
use Rattle.refusal.specs.Answered.{reached}
use Rattle.transcript.specs.Check.{check_answer}
use Rattle.std.specs.Prelude.{Result, Ok, Err}

module _ (cols rows : ℕ) where
  pub records-none : (s : List ℕ) (rs : List Record) (n : ℕ) → length s ≡ 0 → records cols rows s ≡ got rs n → rs ≡ []
  unfolding records records_in
  records-none = until_none (parse_record cols rows)

  -- how many there are, as a loop counts them
  pub records-tally : (s : List ℕ) → check_answer (records cols rows s) ≡ tally Ok Err 0 (until_all (parse_record cols rows) s)
  unfolding records records_in
  records-tally s = go (until_all (parse_record cols rows) s)
    where
      go : (g : Got (List Record)) → check_answer g ≡ tally Ok Err 0 g
      go (got rs n) = ap Ok (omega arith)
      go (refused r) = refl

  module _ (h : cols ≤ 4096) (k : rows ≤ 4096) where
    record-takes : Takes (parse_record cols rows)
    record-takes = record {
      takes = λ s r n e. (omega (arith, ((record-format cols rows h k).came s r n e).taken, record-some r), bounded (record-format cols rows h k) s r n e);
    }

    -- the first record: parse_record cols rows s ≡ got x k, 1 ≤ k ≤ length s, rs ≡ x ∷ rest and records cols rows (drop k s) ≡ got rest m
    pub records-first : (s : List ℕ) (rs : List Record) (n : ℕ) → 0 < length s → records cols rows s ≡ got rs n → First (parse_record cols rows) (records cols rows) s rs n
    unfolding records records_in
    records-first = until-got record-takes

    -- the same of a loop that stands at the place p
    pub records-next : (s : List ℕ) (p : ℕ) (rs : List Record) (n : ℕ) → p < length s → records cols rows (drop p s) ≡ got rs n → Next (parse_record cols rows) (records cols rows) s p rs
    unfolding records records_in
    records-next = until-next record-takes

-- in a grid that is right
pub grid-takes : (cols rows : ℕ) → grid_right cols rows ≡ true → Takes (parse_record cols rows)
grid-takes cols rows e = let g = grid-range cols rows e in record-takes cols rows g.most-cols g.most-rows

-- ---- what was answered of one record
-- what follows its mode was read
module _ {at : ℕ} {g : Got Record} {a : Result (Head × ℕ) Refusal} {vs ls : List ℤ} (p : Parsing at g a vs ls) where
  pub rest_read : (h : Head) (next : ℕ) → a ≡ Ok (h, next) → Ok next ≡ reached at g
  rest_read h next i = let b = parsed at g h next vs ls (rw i at p) in ap Ok b.moved ∙ ap (reached at) (sym b.is)

  pub rest-refused : (why : Refusal) → a ≡ Err why → Err why ≡ reached at g
  rest-refused why i = ap (reached at) (sym (parse-refused at g why vs ls (rw i at p)))

-- and ends where the record does
pub rest-answer : {cols rows : ℕ} {s : List ℕ} {at : ℕ} {h : Head} {next : ℕ} → CodedRead cols rows s at h next → reached next (parse_motion h (drop next s)) ≡ reached at (parse_record cols rows (drop at s))
rest-answer {s = s} {at = at} {h = h} {next = next} r = go (parse_motion h (drop next s)) ∙ ap (reached at) (sym r.is)
  where
    go : (g : Got Record) → reached next g ≡ reached at (after r.taken g)
    go (got x k) = ap Ok (omega (arith, r.moved))
    go (refused why) = refl

-- of the definition
pub record-read : (at : ℕ) (g : Got Record) (next : ℕ) → Ok next ≡ reached at g → (r : Record) × (n : ℕ) × (g ≡ got r n) × (next ≡ at + n)
record-read at (got r n) next e = (r, n, refl, cc)
record-read at (refused why) next e = absurd (let z : ◌≡◌ {A = ℕ} 0 1 = cc in omega arith)

pub not-record : (at : ℕ) (g : Got Record) (why : Refusal) → Err why ≡ reached at g → g ≡ refused why
not-record at (got r n) why e = absurd (let z : ◌≡◌ {A = ℕ} 0 1 = cc in omega arith)
not-record at (refused w) why e = ap refused (cc)
