-- A call at each answer, over plain lists and numbers.
-- Assumes nothing.
use mathlib.Core.Path.{◌≡◌, sym, ap, ◌∙◌}
use mathlib.Core.List.{List}
use Prim.Native.Nat.{ℕ, ◌+◌, ◌-◌, ◌≤◌, ◌<◌}
use native.Mathlib.Omega.{arith}
use borrow.Author.Tests.{eq-eqb, ne_eqb}
use lib.IntN.{ℤ}
use lib.ListN.{length, drop}
use Rattle.ints.specs.Z.{when◌then◌else◌}
use Rattle.ints.proofs.Fits.{if_no}
use Rattle.refusal.specs.Got.{Got, got, refused}
use Rattle.refusal.proofs.Answered.{Answered}
use Rattle.refusal.specs.declared.Refusal.{Refusal}
use Rattle.bits.specs.Bits.{bit_list}
use Rattle.picture.specs.InnerPicture.{Within}
use Rattle.picture.specs.InnerLent.{Slices}
use Rattle.state.specs.Questions.{ask_call}
use Rattle.state.specs.declared.Call.{Call}
use Rattle.state.specs.Questions.{Asked, yes}
use Rattle.state.proofs.Yes.{Called, call-yes}
use Rattle.record.specs.Record.{Record, skip_record}
use Rattle.record.specs.InnerRecord.{record_of}
use Rattle.record.specs.Range.{RecordRange, HeadRange}
use Rattle.record.specs.Write.{record_bytes}
use Rattle.record.specs.declared.Head.{Head}
use Rattle.transcript.specs.Written.{Written}
use Rattle.reading.specs.Read.{read_coded, read_macroblock}
use Rattle.reading.specs.InnerAnswers.{Reading}
use Rattle.std.specs.Prelude.{Result}
use Rattle.reading.proofs.Answers.{was_read, read-refused, read-coded, read-in-range, read-head-range, read-no-skip}
use Rattle.apply.specs.Apply.{applied_luma, applied_chroma, applied_field}
use Rattle.state.specs.State.{State, field_of, context_of, lengths_of}
use Rattle.macroblock.specs.Decode.{quantiser_after, applied, outcome_of, asked, decoded}
use Rattle.macroblock.specs.Entry.{mb_left, quantiser_by, cursor_by}
use Rattle.state.specs.declared.Cursor.{Cursor}
use Rattle.macroblock.specs.Decode.{MbAnswer}
use Rattle.std.specs.Prelude.{Ok, Err}

-- the state with another quantiser and other slices
abbrev pub changed : State → ℕ → Slices → State
changed s quantiser pic =
    record {
      cols = s.cols;
      rows = s.rows;
      halfpel = s.halfpel;
      thirdpel = s.thirdpel;
      delta = s.delta;
      quantiser = quantiser;
      ry = s.ry;
      rcb = s.rcb;
      rcr = s.rcr;
      y = pic.y;
      cb = pic.cb;
      cr = pic.cr;
      mv = pic.mv;
      marks = pic.marks;
    }

-- what a record makes of the slices
abbrev pub slices_by : State → Record → Slices
slices_by s r =
    let f = applied_field r (field_of s) in
    record {
      y = applied_luma s.cols s.rows s.ry r s.y;
      cb = applied_chroma 0 s.cols s.rows s.rcb r s.cb;
      cr = applied_chroma 1 s.cols s.rows s.rcr r s.cr;
      mv = f.mv;
      marks = f.marks;
    }

-- a mode that was tested
pub some-mode : (mode : ℕ) → (mode ≡ 0 → ⊥) → 0 < mode
some-mode mode h = omega arith

-- the quantiser after a record that is no skip
pub coded-quantiser : (s : State) (r : Record) → 0 < r.head.mode → quantiser_after s r ≡ r.head.quantiser
unfolding quantiser_after
coded-quantiser s r h = if_no _ _ _ (ne_eqb r.head.mode 0 (omega arith))

module _ (s : State) (call : Call) (bits : List ℕ) (place : ℕ) (transcript : List ℕ) (fill : ℕ) where
  -- what is read, and what is read of a macroblock that is no skip
  abbrev found : Got Record
  found = read_macroblock (context_of s) call (drop place (bit_list bits))

  abbrev pub found_coded : Got Record
  found_coded = read_coded (context_of s) call (drop place (bit_list bits))

  pub asked_by : (answer : Asked) (free : ℕ) → answer ≡ ask_call s.cols s.rows (lengths_of s) call s.quantiser (length bits) place free → free ≡ length transcript - fill → answer ≡ asked s call bits place transcript fill
  asked_by answer free e f = e ∙ ap (λ (n : ℕ). ask_call s.cols s.rows (lengths_of s) call s.quantiser (length bits) place n) f

  -- ---- a question was answered with no
  pub not-asked : (answer : Asked) (why : Refusal) → answer ≡ asked s call bits place transcript fill → answer ≡ Err why → mb_left (Err why) s transcript ≡ decoded s call bits place transcript fill
  unfolding decoded
  not-asked answer why e is = rw (sym e ∙ is)

  -- ---- all were answered with yes
  module _ (yes : asked s call bits place transcript fill ≡ yes) where
    abbrev pub Facts : Type 0
    Facts = Called s.cols s.rows (lengths_of s) call s.quantiser (length bits) place (length transcript - fill)

    pub facts : Facts
    facts = call-yes s.cols s.rows (lengths_of s) call s.quantiser (length bits) place (length transcript - fill) yes

    pub within : Within s.cols s.rows call.column call.row
    within = record { across = facts.rest.column; down = facts.rest.row; wide = facts.in-grid.most-cols; high = facts.in-grid.most-rows }

    pub room : fill + 2089 ≤ length transcript
    room = omega (arith, facts.rest.free_bytes)

    on : (o : Got Record) → found ≡ o → outcome_of s place transcript fill o ≡ decoded s call bits place transcript fill
    unfolding decoded
    on o e = rw (yes, e)

    -- ---- a skip: nothing is read
    pub skipped : call.mode ≡ 0 → (filled : ℕ) (pic : Slices) (bytes : List ℕ)
        → Written transcript fill (record_bytes (skip_record call.column call.row)) filled bytes
        → pic ≡ slices_by s (skip_record call.column call.row)
        → mb_left (Ok (record { place = place; quantiser = s.quantiser; fill = filled; clipped = 0 })) (changed s s.quantiser pic) bytes ≡ decoded s call bits place transcript fill
    unfolding outcome_of applied quantiser_after skip_record read_macroblock when◌then◌else◌
    skipped m filled pic bytes w e =
        let f : found ≡ got (skip_record call.column call.row) 0 = rw (eq-eqb call.mode 0 m) in
        let p : place ≡ place + 0 = omega arith in
        (λ i. mb_left (Ok (record { place = p i; quantiser = s.quantiser; fill = w.moved i; clipped = 0 })) (changed s s.quantiser (e i)) (w.leaves i)) ∙ on (got (skip_record call.column call.row) 0) f

    -- ---- no skip
    module _ (some : 0 < call.mode) where
      on-coded : (o : Got Record) → found_coded ≡ o → outcome_of s place transcript fill o ≡ decoded s call bits place transcript fill
      on-coded o e = on o (read-coded (context_of s) call (drop place (bit_list bits)) some ∙ e)

      pub not-read : (answer : Result (Head × ℕ) Refusal) (why : Refusal) (vs ls : List ℤ) → Reading place found_coded answer vs ls → answer ≡ Err why
          → mb_left (Err why) s transcript ≡ decoded s call bits place transcript fill
      unfolding outcome_of
      not-read answer why vs ls r is = on-coded (refused why) (read-refused place found_coded why vs ls (rw is at r))

      -- a record was read
      module _ (answer : Result (Head × ℕ) Refusal) (h : Head) (next : ℕ) (vs ls : List ℤ) (r : Reading place found_coded answer vs ls) (is : answer ≡ Ok (h, next)) where
        said : Reading place found_coded (Ok (h, next)) vs ls
        said = rw is at r

        by : Answered place found_coded (record_of h vs ls) next
        by = was_read place found_coded h next vs ls said

        pub range : RecordRange s.cols s.rows (record_of h vs ls)
        range = read-in-range (context_of s) call within some facts.rest.mode facts.rest.quantiser-most (drop place (bit_list bits)) place h next vs ls said

        pub head_in : HeadRange h
        head_in = read-head-range (context_of s) call within some facts.rest.mode facts.rest.quantiser-most (drop place (bit_list bits)) place h next vs ls said

        pub no-skip : 0 < h.mode
        no-skip = read-no-skip (context_of s) call within some facts.rest.mode facts.rest.quantiser-most (drop place (bit_list bits)) place h next vs ls said

        -- it is written to the transcript and applied
        pub accepted : (filled : ℕ) (pic : Slices) (bytes : List ℕ)
            → Written transcript fill (record_bytes (record_of h vs ls)) filled bytes
            → pic ≡ slices_by s (record_of h vs ls)
            → mb_left (Ok (record { place = next; quantiser = h.quantiser; fill = filled; clipped = h.clipped })) (changed s h.quantiser pic) bytes ≡ decoded s call bits place transcript fill
        unfolding outcome_of applied
        accepted filled pic bytes w e =
            let q = sym (coded-quantiser s (record_of h vs ls) no-skip) in
            (λ i. mb_left (Ok (record { place = by.moved i; quantiser = q i; fill = w.moved i; clipped = h.clipped })) (changed s (q i) (e i)) (w.leaves i))
            ∙ on-coded (got (record_of h vs ls) by.taken) by.is
