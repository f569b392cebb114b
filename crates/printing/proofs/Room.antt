-- The room is enough: no run of the printer is refused by 8.
-- Assumes nothing.
use mathlib.Core.Path.{◌≡◌, refl, sym, ap, ◌∙◌}
use mathlib.Core.Bool.{Bool, true, false, cond, ◌&&◌, not}
use mathlib.Core.List.{List, [], ◌∷◌}
use Prim.Native.Nat.{ℕ, zero, suc, ◌+◌, ◌-◌, ◌*◌, ◌≤◌}
use native.Mathlib.Nat.{le_of_lt}
use native.Mathlib.Omega.{arith}
use borrow.Author.Tests.{le-leb}
use lib.Dec.{eqb, leb, ltb}
use lib.IntN.{ℤ, pos, nat_abs, ◌+ℤ◌}
use lib.ListN.{length, drop, length-replicate}
use lib.Seq.{sets, length-sets}
use lib.Signed.{lt_z}
use Rattle.ints.specs.Z.{when◌then◌else◌}
use Rattle.refusal.specs.Got.{Got, got, refused, after, and_then, map_got}
use Rattle.refusal.specs.declared.Refusal.{Refusal}
use Rattle.refusal.specs.declared.Refusal.TheVariants.{GridSize, StateLength, MissingReference, ReferenceLength, CallRange, QuantiserRange, BitPlace, TranscriptRoom, Truncated, BadBitWidth, InvalidFrameCode, InvalidQuantiser, LevelPosition}
use Rattle.refusal.proofs.Formats.{got-value}
use Rattle.refusal.proofs.Local.{apart}
use Rattle.bits.specs.Bits.{bit_list}
use Rattle.bits.specs.Code.{bit_value, code_from, code}
use Rattle.bits.specs.Signed.{signed_of, signed_code}
use Rattle.refusal.proofs.Lists.{mapped}
use Rattle.levels.specs.Levels.{block}
use Rattle.levels.specs.Pattern.{patterns, keep, pattern}
use Rattle.levels.proofs.Ranges.{Refuses, cut, long, past, block-refuses}
use Rattle.vectors.specs.Modes.{num_motion_vectors}
use Rattle.vectors.specs.Precision.{both_flags, one_flag, precision}
use Rattle.vectors.specs.declared.svq3_mb.Svq3MvPrecision.{Svq3MvPrecision}
use Rattle.record.specs.Record.{Record, skip_record}
use Rattle.levels.specs.Items.{no_levels, item_coded, item_book, item_start, item_place, read_lists, read_items}
use Rattle.record.specs.Write.{record_bytes}
use Rattle.levels.proofs.ListKinds.{start_fits}
use Rattle.record.proofs.Lengths.{record-length, head-range}
use Rattle.state.specs.Questions.{then_ask, grid_right, planes_right, state_right, reference_there, call_right, place_in, ask_start, ask_quantiser, ask_place, ask_rest, ask_call, ask_run}
use Rattle.state.specs.declared.Call.{Call}
use Rattle.state.specs.Questions.{Asked}
use Rattle.std.specs.Prelude.{Ok, Err}
use Rattle.run.specs.Calls.{call_in}
use Rattle.state.specs.State.{Context, State, context_of, lengths_of}
use Rattle.reading.specs.Read.{Moving, moved, read_vectors, quantiser_in, read_quantiser, record_of, at_first, read_residual, read_coded, read_macroblock}
use Rattle.macroblock.specs.Decode.{applied, Outcome, kept, outcome_of, unless_refused, decoded}
use Rattle.run.specs.Run.{Ran, ended, with_call, onward, ran_from, ran}
use Rattle.theorems.proofs.Traces.{Kind, no, yes, kind, path-range}
use Rattle.printing.specs.Header.{HeaderRange, calls_from}
use Rattle.printing.specs.Print.{start, room}
use Rattle.printing.specs.declared.header.Header.{Header}

-- ---- no reader refuses by 8
abbrev Never : {E X : Type 0} → (List E → Got X) → Type 0
Never {E} {X} read = (s : List E) → read s ≡ refused TranscriptRoom → ⊥

is-got : {X : Type 0} {x : X} {n : ℕ} {why : Refusal} → got x n ≡ refused why → ⊥
is-got e = let z : ◌≡◌ {A = ℕ} 0 1 = cc in omega arith

after-not : {X : Type 0} (n : ℕ) (g : Got X) → (g ≡ refused TranscriptRoom → ⊥) → after n g ≡ refused TranscriptRoom → ⊥
after-not n (got x m) h e = is-got e
after-not n (refused why) h e = h e

then_never : {E X Y : Type 0} (f : List E → Got X) (g : X → List E → Got Y) → Never f → ((x : X) → Never (g x)) → Never (λ s. and_then (f s) s g)
then_never {E} {X} f g F G s e = go (f s) refl e
  where
    go : (a : Got X) → f s ≡ a → and_then a s g ≡ refused TranscriptRoom → ⊥
    go (got x n) p e = after-not n (g x (drop n s)) (G x (drop n s)) e
    go (refused why) p e = let w : why ≡ TranscriptRoom = cc in F s (p ∙ ap refused w)

map-never : {E X Y : Type 0} (h : X → Y) (f : List E → Got X) → Never f → Never (λ s. map_got h (f s))
map-never {E} {X} h f F s e = go (f s) refl e
  where
    go : (a : Got X) → f s ≡ a → map_got h a ≡ refused TranscriptRoom → ⊥
    go (got x n) p e = is-got e
    go (refused why) p e = let w : why ≡ TranscriptRoom = cc in F s (p ∙ ap refused w)

other : {X : Type 0} (why : Refusal) → (why ≡ TranscriptRoom → ⊥) → ◌≡◌ {A = Got X} (refused why) (refused TranscriptRoom) → ⊥
other why h e = h (let w : why ≡ TranscriptRoom = cc in w)

is-nine : Truncated ≡ TranscriptRoom → ⊥
is-nine e = let z : ◌≡◌ {A = ℕ} 0 1 = cc in omega arith

is-ten : {n : ℕ} → BadBitWidth n ≡ TranscriptRoom → ⊥
is-ten e = let z : ◌≡◌ {A = ℕ} 0 1 = cc in omega arith

is-eleven : {n : ℕ} → InvalidFrameCode n ≡ TranscriptRoom → ⊥
is-eleven e = let z : ◌≡◌ {A = ℕ} 0 1 = cc in omega arith

is-twelve : {z : ℤ} → InvalidQuantiser z ≡ TranscriptRoom → ⊥
is-twelve e = let z : ◌≡◌ {A = ℕ} 0 1 = cc in omega arith

is-thirteen : {n : ℕ} → LevelPosition n ≡ TranscriptRoom → ⊥
is-thirteen e = let z : ◌≡◌ {A = ℕ} 0 1 = cc in omega arith

code-never-from : (r m : ℕ) → Never (code_from r m)
unfolding code_from
code-never-from r m [] e = other Truncated is-nine e
code-never-from r m (true ∷ s) e = is-got e
code-never-from zero m (false ∷ s) e = other (BadBitWidth 32) is-ten e
code-never-from (suc r) m (false ∷ []) e = other Truncated is-nine e
code-never-from (suc r) m (false ∷ d ∷ s) e = after-not 2 (code_from r (2 * m + bit_value d) s) (code-never-from r (2 * m + bit_value d) s) e

code-never : Never code
unfolding code
code-never = code-never-from 31 1

signed-never : Never signed_code
unfolding signed_code
signed-never = map-never signed_of code code-never

kept-never : Never (λ s. keep (λ k. ltb k 48) InvalidFrameCode (code s))
kept-never s e = go (code s) refl e
  where
    pick : (t : Bool) (k n : ℕ) → cond t (got k n) (refused (InvalidFrameCode k)) ≡ refused TranscriptRoom → ⊥
    pick true k n e = is-got e
    pick false k n e = other (InvalidFrameCode k) is-eleven e

    go : (a : Got ℕ) → code s ≡ a → keep (λ k. ltb k 48) InvalidFrameCode a ≡ refused TranscriptRoom → ⊥
    go (got k n) p e = pick (ltb k 48) k n e
    go (refused why) p e = code-never s (p ∙ e)

pattern-never : Never pattern
unfolding pattern
pattern-never = map-never (λ k. lib.ListN.get_or patterns k 0) (λ s. keep (λ k. ltb k 48) InvalidFrameCode (code s)) kept-never

precision-never : (half third : Bool) → Never (precision half third)
unfolding precision both_flags one_flag
precision-never true true [] e = other Truncated is-nine e
precision-never true true (false ∷ s) e = is-got e
precision-never true true (true ∷ []) e = other Truncated is-nine e
precision-never true true (true ∷ false ∷ s) e = is-got e
precision-never true true (true ∷ true ∷ s) e = is-got e
precision-never true false [] e = other Truncated is-nine e
precision-never true false (true ∷ s) e = is-got e
precision-never true false (false ∷ s) e = is-got e
precision-never false true [] e = other Truncated is-nine e
precision-never false true (true ∷ s) e = is-got e
precision-never false true (false ∷ s) e = is-got e
precision-never false false s e = is-got e

block-never : (i : ℕ) → Never (block (item_book i) (item_start i))
block-never i s e = go TranscriptRoom refl (block-refuses (item_book i) (item_start i) s TranscriptRoom (le_of_lt (start_fits i)) e)
  where
    go : (x : Refusal) → x ≡ TranscriptRoom → Refuses (item_book i) x → ⊥
    go x h cut = is-nine h
    go x h long = is-ten h
    go x h (past a b) = is-thirteen h

chosen : {X : Type 0} (t : Bool) (a b : Got X) → (a ≡ refused TranscriptRoom → ⊥) → (b ≡ refused TranscriptRoom → ⊥) → (when t then a else b) ≡ refused TranscriptRoom → ⊥
unfolding when◌then◌else◌
chosen true a b h k e = h e
chosen false a b h k e = k e

lists-never : (n i p : ℕ) (levels : List ℤ) → Never (read_lists (λ j. block (item_book j) (item_start j)) n i p levels)
unfolding read_lists
lists-never zero i p levels s e = is-got e
lists-never (suc n) i p levels s e =
    chosen (item_coded p i) _ _
    (then_never (block (item_book i) (item_start i)) (λ found rest. read_lists (λ j. block (item_book j) (item_start j)) n (suc i) p (sets levels (item_place i) found) rest) (block-never i) (λ found. lists-never n (suc i) p (sets levels (item_place i) found)) s)
    (lists-never n (suc i) p levels s) e

items-never : (p : ℕ) (levels : List ℤ) → Never (read_items 26 0 p levels)
unfolding read_items
items-never = lists-never 26 0

vectors-never : (call : Call) (p : Svq3MvPrecision) (n i : ℕ) (m : Moving) → Never (read_vectors call p n i m)
unfolding read_vectors
vectors-never call p zero i m s e = is-got e
vectors-never call p (suc n) i m s e =
    then_never signed_code (λ dy s₁. and_then (signed_code s₁) s₁ (λ dx s₂. read_vectors call p n (suc i) (moved call p i m dy dx) s₂)) signed-never
    (λ dy. then_never signed_code (λ dx s₂. read_vectors call p n (suc i) (moved call p i m dy dx) s₂) signed-never (λ dx. vectors-never call p n (suc i) (moved call p i m dy dx))) s e

quantiser-never : (delta : Bool) (q p : ℕ) → Never (read_quantiser delta q p)
unfolding read_quantiser quantiser_in
quantiser-never delta q p s e =
    chosen (not (eqb p 0) && delta) _ _
    (then_never signed_code (λ d rest. quantiser_in (pos q +ℤ d)) signed-never
    (λ d rest. chosen (not (lt_z (pos q +ℤ d) (pos 0)) && lt_z (pos q +ℤ d) (pos 32)) (got (nat_abs (pos q +ℤ d)) 0) (refused (InvalidQuantiser (pos q +ℤ d))) is-got (other (InvalidQuantiser (pos q +ℤ d)) is-twelve)) s)
    is-got e

residual-never : (delta : Bool) (q : ℕ) (call : Call) (p : Svq3MvPrecision) (m : Moving) → Never (read_residual delta q call p m)
unfolding read_residual
residual-never delta q call p m =
    then_never pattern (λ v s₁. and_then (read_quantiser delta q v s₁) s₁ (λ q₁ s₂. map_got (record_of call p m v q₁) (read_items 26 0 v no_levels s₂))) pattern-never
    (λ v. then_never (read_quantiser delta q v) (λ q₁ s₂. map_got (record_of call p m v q₁) (read_items 26 0 v no_levels s₂)) (quantiser-never delta q v) (λ q₁. map-never (record_of call p m v q₁) (read_items 26 0 v no_levels) (items-never v no_levels)))

coded-never : (c : Context) (call : Call) → Never (read_coded c call)
unfolding read_coded
coded-never c call =
    then_never (precision c.halfpel c.thirdpel) (λ p s₁. and_then (read_vectors call p (num_motion_vectors call.mode) 0 (at_first c.field) s₁) s₁ (λ m s₂. read_residual c.delta c.quantiser call p m s₂)) (precision-never c.halfpel c.thirdpel)
    (λ p. then_never (read_vectors call p (num_motion_vectors call.mode) 0 (at_first c.field)) (λ m s₂. read_residual c.delta c.quantiser call p m s₂) (vectors-never call p (num_motion_vectors call.mode) 0 (at_first c.field)) (λ m. residual-never c.delta c.quantiser call p m))

read-never : (c : Context) (call : Call) → Never (read_macroblock c call)
unfolding read_macroblock
read-never c call s e = chosen (eqb call.mode 0) (got (skip_record call.column call.row) 0) (read_coded c call s) is-got (coded-never c call s) e

-- ---- the questions
ask-other : (t : Bool) (why : Refusal) (next : Asked) → (why ≡ TranscriptRoom → ⊥) → (next ≡ Err TranscriptRoom → ⊥) → then_ask t why next ≡ Err TranscriptRoom → ⊥
ask-other true why next h k e = k e
ask-other false why next h k e = h (let w : why ≡ TranscriptRoom = cc in w)

abbrev Distinct : Refusal → Type 0
Distinct why = why ≡ TranscriptRoom → ⊥

one : Distinct GridSize
one e = let z : ◌≡◌ {A = ℕ} 0 1 = cc in omega arith

two : Distinct StateLength
two e = let z : ◌≡◌ {A = ℕ} 0 1 = cc in omega arith

three : Distinct MissingReference
three e = let z : ◌≡◌ {A = ℕ} 0 1 = cc in omega arith

four : Distinct ReferenceLength
four e = let z : ◌≡◌ {A = ℕ} 0 1 = cc in omega arith

five : Distinct CallRange
five e = let z : ◌≡◌ {A = ℕ} 0 1 = cc in omega arith

six : Distinct QuantiserRange
six e = let z : ◌≡◌ {A = ℕ} 0 1 = cc in omega arith

seven : Distinct BitPlace
seven e = let z : ◌≡◌ {A = ℕ} 0 1 = cc in omega arith

is-yes : {why : Refusal} → ◌≡◌ {A = Asked} (Ok tt) (Err why) → ⊥
is-yes e = let z : ◌≡◌ {A = ℕ} 0 1 = cc in omega arith

module _ (s : State) (size place : ℕ) where
  start-never : (next : Asked) → (next ≡ Err TranscriptRoom → ⊥) → ask_start s.cols s.rows (lengths_of s) next ≡ Err TranscriptRoom → ⊥
  unfolding ask_start
  start-never next h =
      let l = lengths_of s in
      ask-other (grid_right s.cols s.rows) GridSize _ one
      (ask-other (state_right s.cols s.rows l) StateLength _ two
      (ask-other (reference_there l) MissingReference _ three
      (ask-other (planes_right s.cols s.rows l.ry l.rcb l.rcr) ReferenceLength next four h)))

  run-never : ask_run s.cols s.rows (lengths_of s) s.quantiser size place ≡ Err TranscriptRoom → ⊥
  unfolding ask_run ask_quantiser ask_place
  run-never = start-never _ (ask-other (leb s.quantiser 31) QuantiserRange _ six (ask-other (place_in size place) BitPlace (Ok tt) seven is-yes))

  call-never : (call : Call) (free : ℕ) → 2089 ≤ free → ask_call s.cols s.rows (lengths_of s) call s.quantiser size place free ≡ Err TranscriptRoom → ⊥
  unfolding ask_call ask_rest ask_quantiser ask_place
  call-never call free h =
      let f : then_ask (leb 2089 free) TranscriptRoom (Ok tt) ≡ Err TranscriptRoom → ⊥ = rw (le-leb 2089 free h) is-yes in
      start-never _ (ask-other (call_right s.cols s.rows call) CallRange _ five (ask-other (leb s.quantiser 31) QuantiserRange _ six (ask-other (place_in size place) BitPlace _ seven f)))

-- ---- a call
decoded-never : (s : State) (call : Call) (bits : List ℕ) (place : ℕ) (t : List ℕ) (fill : ℕ) → 2089 ≤ length t - fill → decoded s call bits place t fill ≡ kept s t (Err TranscriptRoom) → ⊥
unfolding decoded outcome_of
decoded-never s call bits place t fill h e =
    go (ask_call s.cols s.rows (lengths_of s) call s.quantiser (length bits) place (length t - fill)) (call-never s (length bits) place call (length t - fill) h)
    (read_macroblock (context_of s) call (drop place (bit_list bits))) (read-never (context_of s) call (drop place (bit_list bits))) (ap (λ (o : Outcome). o.answer) e)
  where
    go : (a : Asked) → (a ≡ Err TranscriptRoom → ⊥) → (g : Got Record) → (g ≡ refused TranscriptRoom → ⊥) → (unless_refused a s t (outcome_of s place t fill g)).answer ≡ Err TranscriptRoom → ⊥
    go (Err why) x g y e = x (let w : why ≡ TranscriptRoom = cc in ap Err w)
    go (Ok u) x (refused why) y e = y (let w : why ≡ TranscriptRoom = cc in ap refused w)
    go (Ok u) x (got r n) y e = let z : ◌≡◌ {A = ℕ} 0 1 = cc in omega arith

-- ---- a run with room for its calls
from-never : (s : State) (calls : List Call) (bits : List ℕ) (place : ℕ) (t : List ℕ) (fill : ℕ) → fill + 2089 * length calls ≤ length t → (ran_from s calls bits place t fill).stop ≡ Err TranscriptRoom → ⊥
unfolding ran_from ended with_call outcome_of
from-never s [] bits place t fill h e = let z : ◌≡◌ {A = ℕ} 0 1 = cc in omega arith
from-never s (call ∷ calls) bits place t fill h e =
    go (λ r n k. from-never (applied s r) calls bits (place + n) (sets t fill (record_bytes r)) (fill + length (record_bytes r)) k) (kind s call bits place t fill) e
  where
    rest : Outcome → Ran
    rest o = onward call s place t fill o.answer (λ p f. ran_from o.state calls bits p o.transcript f)

    go : ((r : Record) (n : ℕ) → fill + length (record_bytes r) + 2089 * length calls ≤ length (sets t fill (record_bytes r)) → (ran_from (applied s r) calls bits (place + n) (sets t fill (record_bytes r)) (fill + length (record_bytes r))).stop ≡ Err TranscriptRoom → ⊥)
        → Kind s call bits place t fill → (rest (decoded s call bits place t fill)).stop ≡ Err TranscriptRoom → ⊥
    go more (no why x) e =
        let y : Err why ≡ Err TranscriptRoom = sym (ap (λ (o : Outcome). (rest o).stop) x) ∙ e in
        let w : why ≡ TranscriptRoom = cc in
        decoded-never s call bits place t fill (omega arith) (x ∙ ap (λ (v : Refusal). kept s t (Err v)) w)
    go more (yes r n a g x) e =
        let range = path-range s call (drop place (bit_list bits)) r n a.ready g in
        let most = record-length r (head-range s.cols s.rows r a.ready.wide a.ready.high range) in
        let l = length-sets t fill (record_bytes r) in
        more r n (omega arith) (sym (ap (λ (o : Outcome). (rest o).stop) x) ∙ e)

-- as many calls as the header says
calls_count : (count : ℕ) (s : List ℕ) (cs : List Call) (n : ℕ) → calls_from count s ≡ got cs n → length cs ≡ count
unfolding calls_from
calls_count zero s cs n e = let c : [] ≡ cs = got-value e in sym (ap length c)
calls_count (suc count) s cs n e =
    let b = apart (call_in s) (λ call rest. map_got (λ calls. call ∷ calls) (calls_from count rest)) s cs n e in
    let m = mapped (λ calls. b.x ∷ calls) (calls_from count (drop b.m s)) cs b.k b.second in
    sym (ap length m.2) ∙ ap suc (calls_count count (drop b.m s) m.0 b.k m.1)

-- ROOM: whatever the header, the calls read behind it and the bits, the run does not stop by 8
pub room-enough : (h : Header) → HeaderRange h → (s : List ℕ) (cs : List Call) (n : ℕ) → calls_from h.count s ≡ got cs n → (bits : List ℕ) → (ran (start h) cs bits 0 room).stop ≡ Err TranscriptRoom → ⊥
unfolding ran ended room
room-enough h r s cs n e bits x = go cs (calls_count h.count s cs n e) x
  where
    asked : (a : Asked) → (a ≡ Err TranscriptRoom → ⊥) → a ≡ Err TranscriptRoom → ⊥
    asked (Ok u) k e = let z : ◌≡◌ {A = ℕ} 0 1 = cc in omega arith
    asked (Err why) k e = k (let w : why ≡ TranscriptRoom = cc in ap Err w)

    go : (calls : List Call) → length calls ≡ h.count → (ran (start h) calls bits 0 room).stop ≡ Err TranscriptRoom → ⊥
    go [] l x = asked _ (run-never (start h) (length bits) 0) x
    go (call ∷ calls) l x = from-never (start h) (call ∷ calls) bits 0 room 0 (omega (arith, r.count, length-replicate {A = ℕ} 33424 0)) x
