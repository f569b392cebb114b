-- A run's accepted calls are a path, and its transcript is the bytes of the path's records.
-- Assumes nothing.
use mathlib.Core.Path.{◌≡◌, refl, sym, ap, ◌∙◌, subst}
use mathlib.Core.Bool.{Bool}
use mathlib.Core.List.{List, [], ◌∷◌, ◌++◌, append_assoc, append-nil}
use Prim.Native.Nat.{ℕ, ◌+◌, ◌-◌, ◌≤◌}
use native.Mathlib.Nat.{add-zero}
use native.Mathlib.Omega.{arith}
use lib.ListN.{length, take, drop, length-append, length-take}
use lib.Seq.{sets, sets-eq, drop-drop, take_at}
use Rattle.refusal.specs.Got.{Got, got, refused}
use Rattle.refusal.specs.declared.Refusal.{Refusal}
use Rattle.bits.specs.Bits.{bit_list}
use Rattle.state.specs.declared.Call.{Call}
use Rattle.state.specs.Questions.{Asked}
use Rattle.std.specs.Prelude.{Ok, Err}
use Rattle.record.specs.Record.{Record}
use Rattle.record.specs.Range.{RecordRange}
use Rattle.record.specs.Write.{record_bytes}
use Rattle.record.proofs.Lengths.{record-length, head-range}
use Rattle.reading.specs.Read.{read_macroblock}
use Rattle.reading.proofs.Took.{read-range, read-call}
use Rattle.state.specs.State.{State, context_of}
use Rattle.macroblock.specs.Decode.{applied, Outcome, kept, outcome_of, asked, decoded}
use Rattle.run.specs.Run.{Ran, ended, with_call, onward, ran_from}
use Rattle.run.specs.Run.{Stop}
use Rattle.theorems.specs.Trace.{Ready, Path, done, step, calls_of, bytes_of, clips_of}
use Rattle.theorems.proofs.Ready.{Asks, asks}

-- ---- one call
pub data Kind (s : State) (call : Call) (bits : List ℕ) (place : ℕ) (t : List ℕ) (fill : ℕ) : Type 0 where
  no : (why : Refusal) → decoded s call bits place t fill ≡ kept s t (Err why) → Kind s call bits place t fill
  yes : (r : Record) (n : ℕ) → Asks s call (length t - fill) → read_macroblock (context_of s) call (drop place (bit_list bits)) ≡ got r n
      → decoded s call bits place t fill ≡ outcome_of s place t fill (got r n) → Kind s call bits place t fill

pub kind : (s : State) (call : Call) (bits : List ℕ) (place : ℕ) (t : List ℕ) (fill : ℕ) → Kind s call bits place t fill
unfolding decoded outcome_of
kind s call bits place t fill =
    go (asked s call bits place t fill) refl
    (read_macroblock (context_of s) call (drop place (bit_list bits))) refl
  where
    go : (a : Asked) → asked s call bits place t fill ≡ a
        → (g : Got Record) → read_macroblock (context_of s) call (drop place (bit_list bits)) ≡ g → Kind s call bits place t fill
    go (Err why) e g h = no why (rw e)
    go (Ok u) e (refused why) h = no why (rw (e, h))
    go (Ok u) e (got r n) h = yes r n (asks s call (length bits) place (length t - fill) e) h (rw (e, h))

-- a record that was written stands behind what was there
written : (t : List ℕ) (fill : ℕ) (b : List ℕ) → fill + length b ≤ length t → take (fill + length b) (sets t fill b) ≡ take fill t ++ b
written t fill b h =
    let l : length (take fill t ++ b) ≡ fill + length b = omega (arith, length-append (take fill t) b, length-take fill t) in
    rw (sets-eq b t fill h) (take_at (take fill t ++ b) (drop (fill + length b) t) (fill + length b) l)

-- ---- the run from a call on
pub record Trace (s : State) (bits : List ℕ) (place : ℕ) (t : List ℕ) (fill : ℕ) (r : Ran) : Type 0 where
  pub rs : List Record
  pub taken : ℕ
  pub path : Path s (drop place (bit_list bits)) rs r.state taken
  pub calls : r.accepted ≡ calls_of rs
  pub moved : r.place ≡ place + taken
  pub bytes : take r.fill r.transcript ≡ take fill t ++ bytes_of rs
  pub clips : r.clipped ≡ clips_of rs

pub no_call : (s : State) (bits : List ℕ) (place : ℕ) (t : List ℕ) (fill : ℕ) (stop : Stop) → Trace s bits place t fill (ended s place t fill stop)
unfolding ended calls_of bytes_of clips_of
no_call s bits place t fill stop =
    record { rs = []; taken = 0; path = done; calls = refl; moved = sym (add-zero place); bytes = sym (append-nil (take fill t)); clips = refl }

-- what an accepted call's record may hold
pub path-range : (s : State) (call : Call) (b : List Bool) (r : Record) (n : ℕ) → Ready s call → read_macroblock (context_of s) call b ≡ got r n → RecordRange s.cols s.rows r
path-range s call b r n a e = read-range (context_of s) call s.cols s.rows b r n a.mode a.column a.row a.quantiser e

one_more : (s : State) (call : Call) (bits : List ℕ) (place : ℕ) (t : List ℕ) (fill : ℕ) (r : Record) (n : ℕ) → Asks s call (length t - fill)
    → read_macroblock (context_of s) call (drop place (bit_list bits)) ≡ got r n → (rest : Ran)
    → Trace (applied s r) bits (place + n) (sets t fill (record_bytes r)) (fill + length (record_bytes r)) rest → Trace s bits place t fill (with_call call r.head.clipped rest)
unfolding with_call calls_of bytes_of clips_of
one_more s call bits place t fill r n a e rest x =
    let range = path-range s call (drop place (bit_list bits)) r n a.ready e in
    let most = record-length r (head-range s.cols s.rows r a.ready.wide a.ready.high range) in
    let fits : fill + length (record_bytes r) ≤ length t = omega (arith, a.free_bytes) in
    let path' = subst (λ (b : List Bool). Path (applied s r) b x.rs rest.state x.taken) (sym (drop-drop n place (bit_list bits))) x.path in
    record {
      rs = r ∷ x.rs;
      taken = n + x.taken;
      path = step call n x.taken a.ready e path' refl;
      calls = λ i. read-call (context_of s) call (drop place (bit_list bits)) r n e i ∷ x.calls i;
      moved = omega (arith, x.moved);
      bytes = x.bytes ∙ ap (λ (l : List ℕ). l ++ bytes_of x.rs) (written t fill (record_bytes r) fits) ∙ append_assoc (take fill t) (record_bytes r) (bytes_of x.rs);
      clips = ap (λ (k : ℕ). r.head.clipped + k) x.clips;
    }

-- TRACE
pub trace : (s : State) (calls : List Call) (bits : List ℕ) (place : ℕ) (t : List ℕ) (fill : ℕ) → Trace s bits place t fill (ran_from s calls bits place t fill)
unfolding ran_from outcome_of
trace s [] bits place t fill = no_call s bits place t fill (Ok tt)
trace s (call ∷ calls) bits place t fill = go (λ r n. trace (applied s r) calls bits (place + n) (sets t fill (record_bytes r)) (fill + length (record_bytes r))) (kind s call bits place t fill)
  where
    rest : Outcome → Ran
    rest o = onward call s place t fill o.answer (λ p f. ran_from o.state calls bits p o.transcript f)

    go : ((r : Record) (n : ℕ) → Trace (applied s r) bits (place + n) (sets t fill (record_bytes r)) (fill + length (record_bytes r)) (ran_from (applied s r) calls bits (place + n) (sets t fill (record_bytes r)) (fill + length (record_bytes r))))
        → Kind s call bits place t fill → Trace s bits place t fill (rest (decoded s call bits place t fill))
    go more (no why e) = subst (λ (o : Outcome). Trace s bits place t fill (rest o)) (sym e) (no_call s bits place t fill (Err why))
    go more (yes r n a h e) = subst (λ (o : Outcome). Trace s bits place t fill (rest o)) (sym e) (one_more s call bits place t fill r n a h _ (more r n))
