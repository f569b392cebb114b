-- The printer's run: its transcript is one, and fits the room.
-- Assumes nothing.
use mathlib.Core.Path.{◌≡◌, refl, sym, ap, ◌∙◌, subst}
use mathlib.Core.List.{List, [], ◌∷◌, ◌++◌}
use Prim.Native.Nat.{ℕ, ◌+◌, ◌≤◌}
use native.Mathlib.Omega.{arith}
use lib.ListN.{length, take, drop, length-replicate}
use lib.Seq.{sets, length-sets, length-take-le}
use Rattle.refusal.specs.Got.{Got, got, refused}
use Rattle.bits.specs.Bits.{bit_list}
use Rattle.state.specs.declared.Call.{Call}
use Rattle.run.specs.Calls.{calls}
use Rattle.record.specs.Record.{Record}
use Rattle.record.specs.Write.{record_bytes}
use Rattle.record.proofs.Lengths.{record-length, head-range}
use Rattle.transcript.specs.Records.{records}
use Rattle.state.specs.State.{State}
use Rattle.macroblock.specs.Decode.{applied, Outcome, outcome_of, decoded}
use Rattle.run.specs.Run.{Ran, ended, with_call, onward, ran_from, ran, ran_of, ran_list, transcript_of}
use Rattle.replay.specs.InnerRecorded.{Recorded}
use Rattle.run.specs.Left.{list_left, leaves}
use Rattle.run.specs.declared.Report.{Report}
use Rattle.printing.specs.Text.{bits_line}
use Rattle.printing.specs.Print.{start, room, lines_of, stop_lines, printed_run}
use Rattle.printing.specs.declared.header.Header.{Header}
use Rattle.theorems.specs.Trace.{bytes_of}
use Rattle.theorems.proofs.Traces.{Kind, no, yes, kind, path-range}
use Rattle.theorems.proofs.Paths.{path-ranged}
use Rattle.theorems.proofs.UniqueReading.{list-trace, transcript-is}
use Rattle.theorems.proofs.ReplayOfRun.{records-of}

module _ (s : State) (list bits : List ℕ) (place : ℕ) (t : List ℕ) where
  -- the transcript of a run is one
  recorded : Recorded s.cols s.rows (transcript_of (ran_list s list bits place t))
  recorded =
      let x = list-trace s list bits place t in
      record { rs = x.rs; taken = length (bytes_of x.rs); is = rw (transcript-is x) (records-of (path-ranged x.path)) }

-- it lies within its room
record Fits (n : ℕ) (r : Ran) : Type 0 where
  fill : r.fill ≤ n
  same : length r.transcript ≡ n

fits-from : (s : State) (calls : List Call) (bits : List ℕ) (place : ℕ) (t : List ℕ) (fill : ℕ) → fill ≤ length t → Fits (length t) (ran_from s calls bits place t fill)
unfolding ran_from ended with_call outcome_of
fits-from s [] bits place t fill h = record { fill = h; same = refl }
fits-from s (call ∷ calls) bits place t fill h =
    go (λ r n k. fits-from (applied s r) calls bits (place + n) (sets t fill (record_bytes r)) (fill + length (record_bytes r)) k) (kind s call bits place t fill)
  where
    rest : Outcome → Ran
    rest o = onward call s place t fill o.answer (λ p f. ran_from o.state calls bits p o.transcript f)

    go : ((r : Record) (n : ℕ) → fill + length (record_bytes r) ≤ length (sets t fill (record_bytes r)) → Fits (length (sets t fill (record_bytes r))) (ran_from (applied s r) calls bits (place + n) (sets t fill (record_bytes r)) (fill + length (record_bytes r))))
        → Kind s call bits place t fill → Fits (length t) (rest (decoded s call bits place t fill))
    go more (no why e) = subst (λ (o : Outcome). Fits (length t) (rest o)) (sym e) (record { fill = h; same = refl })
    go more (yes r n a e' e) =
        let l = length-sets t fill (record_bytes r) in
        let range = path-range s call (drop place (bit_list bits)) r n a.ready e' in
        let most = record-length r (head-range s.cols s.rows r a.ready.wide a.ready.high range) in
        let f = more r n (omega (arith, a.free_bytes)) in
        subst (λ (o : Outcome). Fits (length t) (rest o)) (sym e) (record { fill = omega (arith, f.fill); same = f.same ∙ l })

fits : (s : State) (list bits : List ℕ) (place : ℕ) (t : List ℕ) → Fits (length t) (ran_list s list bits place t)
unfolding ran_list ran ended
fits s list bits place t = go (calls list)
  where
    go : (g : Got (List Call)) → Fits (length t) (ran_of s g bits place t)
    go (got [] n) = record { fill = omega arith; same = refl }
    go (got (call ∷ cs) n) = fits-from s (call ∷ cs) bits place t 0 (omega arith)
    go (refused why) = record { fill = omega arith; same = refl }

-- ---- what a run from the printer's start reports, and the transcript that it leaves
length-room : length room ≡ 33424
unfolding room
length-room = length-replicate {A = ℕ} 33424 0

module _ (h : Header) (list bits : List ℕ) {result : Report} {last : List ℕ} (e : (result ≡ (list_left (start h) list bits 0 room).report) × (last ≡ (list_left (start h) list bits 0 room).transcript)) where
  abbrev whole : Ran
  whole = ran_list (start h) list bits 0 room

  fill_is : result.fill ≡ whole.fill
  unfolding list_left leaves
  fill_is = ap (λ (r : Report). r.fill) e.0

  last-is : last ≡ whole.transcript
  unfolding list_left leaves
  last-is = e.1

  pub fill-there : result.fill ≤ length last
  fill-there = let f = fits (start h) list bits 0 room in omega (arith, fill_is, ap length last-is, f.fill, f.same)

  pub part_count : result.fill ≡ length (take result.fill last)
  part_count = sym (length-take-le result.fill last fill-there)

  pub part-most : length (take result.fill last) ≤ 33424
  part-most = let f = fits (start h) list bits 0 room in omega (arith, part_count, fill_is, f.fill, length-room)

  part-is : take result.fill last ≡ transcript_of whole
  unfolding transcript_of
  part-is = (λ i. take (fill_is i) (last-is i))

  pub part-recorded : Recorded h.grid.cols h.grid.rows (take result.fill last)
  unfolding start
  part-recorded = rw part-is (recorded (start h) list bits 0 room)

  pub lines_are : lines_of (records h.grid.cols h.grid.rows (take result.fill last)) ++ bits_line result.consumed ++ stop_lines result.stop ≡ printed_run (start h) whole
  unfolding printed_run list_left leaves start
  lines_are =
      let c : result.consumed ≡ whole.place = ap (λ (r : Report). r.consumed) e.0 ∙ omega arith in
      let p : result.stop ≡ whole.stop = ap (λ (r : Report). r.stop) e.0 in
      λ i. lines_of (records h.grid.cols h.grid.rows (part-is i)) ++ bits_line (c i) ++ stop_lines (p i)
