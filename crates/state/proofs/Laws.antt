-- Questions one after another: what follows is asked where the ones before answered yes.
-- Assumes nothing.
use mathlib.Core.Path.{◌≡◌, refl, sym, ap, ◌∙◌}
use mathlib.Core.Bool.{Bool, true, false, ◌&&◌}
use Prim.Native.Nat.{ℕ, ◌*◌, ◌≤◌}
use native.Mathlib.Nat.{mul-le-mul}
use native.Mathlib.Omega.{arith}
use borrow.Author.Tests.{leb-true}
use lib.Dec.{leb}
use Rattle.picture.proofs.Laws.{both_true}
use Rattle.refusal.specs.declared.Refusal.{Refusal}
use Rattle.refusal.specs.declared.Refusal.TheVariants.{GridSize, StateLength, MissingReference, ReferenceLength, CallRange, QuantiserRange, BitPlace, TranscriptRoom}
use Rattle.state.specs.Questions.{Asked, yes, then_ask, grid_right, planes_right, state_right, reference_there, call_right, place_in, ask_start, ask_quantiser, ask_place, ask_rest, ask_call, ask_run, ask_replay}
use Rattle.state.specs.declared.Call.{Call}
use Rattle.state.specs.declared.Lengths.{Lengths}
use Rattle.std.specs.Prelude.{Ok, Err}

-- the first answer, then the next question
abbrev pub onward : Asked → Asked → Asked
onward (Ok x) next = next
onward (Err why) next = Err why

-- by the answer to one question
pub then-is : (t : Bool) (why : Refusal) (next a : Asked) → a ≡ then_ask t why yes → then_ask t why next ≡ onward a next
then-is true why next a e = ap (λ (b : Asked). onward b next) (sym e)
then-is false why next a e = ap (λ (b : Asked). onward b next) (sym e)

-- a question that was passed
pub ask-yes : (t : Bool) (why : Refusal) (next : Asked) → then_ask t why next ≡ yes → (t ≡ true) × (next ≡ yes)
ask-yes true why next e = (refl, e)
ask-yes false why next e = absurd (let z : ◌≡◌ {A = ℕ} 0 1 = cc in omega arith)

start-onward : (cols rows : ℕ) (l : Lengths) (next : Asked) → ask_start cols rows l next ≡ onward (ask_start cols rows l yes) next
unfolding ask_start
start-onward cols rows l next = go (grid_right cols rows) (state_right cols rows l) (reference_there l) (planes_right cols rows l.ry l.rcb l.rcr) GridSize StateLength MissingReference ReferenceLength
  where
    go : (a b c d : Bool) (p q r s : Refusal) → then_ask a p (then_ask b q (then_ask c r (then_ask d s next))) ≡ onward (then_ask a p (then_ask b q (then_ask c r (then_ask d s yes)))) next
    go false b c d p q r s = refl
    go true false c d p q r s = refl
    go true true false d p q r s = refl
    go true true true false p q r s = refl
    go true true true true p q r s = refl

pub four-true : (a b c d : Bool) → (a && b && c && d) ≡ true → (a ≡ true) × (b ≡ true) × (c ≡ true) × (d ≡ true)
four-true a b c d e =
    let p = both_true (a && b && c) d e in
    let q = both_true (a && b) c p.0 in
    let s = both_true a b q.0 in
    (s.0, s.1, q.1, p.1)

-- a grid that passed question 1 has at most 4,096 macroblocks a side
pub record GridRange (cols rows : ℕ) : Type 0 where
  pub most-cols : cols ≤ 4096
  pub most-rows : rows ≤ 4096

pub grid-range : (cols rows : ℕ) → grid_right cols rows ≡ true → GridRange cols rows
unfolding grid_right
grid-range cols rows e =
    let s = four-true (leb 1 cols) (leb cols 4096) (leb 1 rows) (leb rows 4096) e in
    record { most-cols = leb-true cols 4096 s.1; most-rows = leb-true rows 4096 s.3 }

-- at most 2^24 macroblocks
pub grid-size : (cols rows : ℕ) → grid_right cols rows ≡ true → cols * rows ≤ 16777216
grid-size cols rows e = let g = grid-range cols rows e in mul-le-mul g.most-cols g.most-rows

place-onward : (size place : ℕ) (next : Asked) → ask_place size place next ≡ onward (ask_place size place yes) next
unfolding ask_place
place-onward size place next = go (place_in size place)
  where
    go : (t : Bool) → then_ask t BitPlace next ≡ onward (then_ask t BitPlace yes) next
    go true = refl
    go false = refl

-- ---- what a function answers, by what the ones before it answered
module _ (cols rows : ℕ) (l : Lengths) where
  pub call-is : (call : Call) (quantiser size place free : ℕ) (a : Asked) → a ≡ ask_start cols rows l yes → ask_call cols rows l call quantiser size place free ≡ onward a (ask_rest cols rows call quantiser size place free)
  unfolding ask_call
  call-is call quantiser size place free a e = start-onward cols rows l _ ∙ ap (λ (b : Asked). onward b (ask_rest cols rows call quantiser size place free)) (sym e)

  pub replay-is : (quantiser : ℕ) (a : Asked) → a ≡ ask_start cols rows l yes → ask_replay cols rows l quantiser ≡ onward a (ask_quantiser quantiser yes)
  unfolding ask_replay
  replay-is quantiser a e = start-onward cols rows l _ ∙ ap (λ (b : Asked). onward b (ask_quantiser quantiser yes)) (sym e)

  pub run_is : (quantiser size place : ℕ) (a : Asked) → a ≡ ask_replay cols rows l quantiser → ask_run cols rows l quantiser size place ≡ onward a (ask_place size place yes)
  unfolding ask_run ask_replay ask_quantiser
  run_is quantiser size place a e =
      start-onward cols rows l _ ∙ go (ask_start cols rows l yes) (leb quantiser 31) ∙
      ap (λ (b : Asked). onward b (ask_place size place yes)) (sym (start-onward cols rows l _) ∙ sym e)
    where
      go : (b : Asked) (t : Bool) → onward b (then_ask t QuantiserRange (ask_place size place yes)) ≡ onward (onward b (then_ask t QuantiserRange yes)) (ask_place size place yes)
      go (Err why) t = refl
      go (Ok x) true = refl
      go (Ok x) false = refl

-- 5 to 8, each by the answer to the one before
module _ (cols rows : ℕ) (call : Call) (quantiser size place free : ℕ) where
  abbrev pub room : Asked
  room = then_ask (leb 2089 free) TranscriptRoom yes

  pub rest-is : (a b d : Asked) → a ≡ then_ask (call_right cols rows call) CallRange yes → b ≡ ask_quantiser quantiser yes → d ≡ ask_place size place yes
      → ask_rest cols rows call quantiser size place free ≡ onward a (onward b (onward d room))
  unfolding ask_rest ask_quantiser
  rest-is a b d p q r =
      then-is (call_right cols rows call) CallRange _ a p ∙ ap (onward a) (then-is (leb quantiser 31) QuantiserRange _ b q ∙ ap (onward b) (place-onward size place _ ∙ ap (λ (x : Asked). onward x room) (sym r)))
