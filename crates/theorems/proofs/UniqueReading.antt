-- UNIQUE READING: for any two runs from one start, whatever their lists of calls, bits, places and transcript room, and also where a refused call stops one or both:
-- equal accepted calls and equal consumed bits give equal transcripts; and equal transcripts give equal calls and equal bits where one of the two runs clipped no component.
-- proofs/Clipped.antt shows that the last premise is needed.
-- Assumes nothing.
use mathlib.Core.Path.{◌≡◌, sym, ap, ◌∙◌, subst}
use mathlib.Core.Logic.{◌↔◌, inl, inr}
use mathlib.Core.List.{List, [], ◌∷◌}
use Prim.Native.Nat.{ℕ, ◌-◌}
use native.Mathlib.Omega.{arith}
use lib.ListN.{length, take, drop, length-take}
use Rattle.bits.specs.Bits.{bit_list}
use Rattle.state.specs.declared.Call.{Call}
use Rattle.state.specs.State.{State}
use Rattle.refusal.specs.Got.{Got, got, refused}
use Rattle.run.specs.Calls.{calls}
use Rattle.run.specs.Run.{Ran, ran, ran_of, ran_list, transcript_of, consumed}
use Rattle.run.specs.Left.{leaves, list_left}
use Rattle.record.specs.Record.{Record}
use Rattle.theorems.specs.Trace.{Path, calls_of, bytes_of}
use Rattle.theorems.specs.Unique.{SameReading, OneUnclipped}
use Rattle.theorems.proofs.Traces.{Trace, trace, no_call}
use Rattle.theorems.proofs.Paths.{path-bounded, same-records, same_bits_lem, path-ranged, same_bytes}

run-trace : (s : State) (calls : List Call) (bits : List ℕ) (place : ℕ) (t : List ℕ) → Trace s bits place t 0 (ran s calls bits place t)
unfolding ran
run-trace s [] bits place t = no_call s bits place t 0 _
run-trace s (call ∷ calls) bits place t = trace s (call ∷ calls) bits place t 0

-- of a list that is refused, and of one that is not
pub list-trace : (s : State) (list bits : List ℕ) (place : ℕ) (t : List ℕ) → Trace s bits place t 0 (ran_list s list bits place t)
unfolding ran_list
list-trace s list bits place t = go (calls list)
  where
    go : (g : Got (List Call)) → Trace s bits place t 0 (ran_of s g bits place t)
    go (got cs n) = run-trace s cs bits place t
    go (refused why) = no_call s bits place t 0 _

module _ {s : State} {bits : List ℕ} {place : ℕ} {t : List ℕ} {r : Ran} (x : Trace s bits place t 0 r) where
  pub transcript-is : transcript_of r ≡ bytes_of x.rs
  unfolding transcript_of
  transcript-is = x.bytes

  consumed-is : consumed bits place r ≡ take x.taken (drop place (bit_list bits))
  unfolding consumed
  consumed-is = let e : r.place - place ≡ x.taken = omega (arith, x.moved) in rw e

  -- no place past the end hides behind `take`: the consumed bits are all there
  consumed-length : length (consumed bits place r) ≡ r.place - place
  consumed-length =
      let b = drop place (bit_list bits) in
      ap length consumed-is ∙ omega (arith, x.moved, path-bounded x.path, length-take x.taken b)

-- of two runs by their records
module _ {s : State} {bits bits' : List ℕ} {place place' : ℕ} {t t' : List ℕ} {r r' : Ran} (x : Trace s bits place t 0 r) (y : Trace s bits' place' t' 0 r') where
  same-transcript : SameReading bits place r bits' place' r' → transcript_of r ≡ transcript_of r'
  same-transcript h =
      let rs = same-records x.path y.path (sym x.calls ∙ h.0 ∙ y.calls) (sym (consumed-is x) ∙ h.1 ∙ consumed-is y) in
      transcript-is x ∙ ap bytes_of rs ∙ sym (transcript-is y)

  same-reading : r.clipped ≡ 0 → transcript_of r ≡ transcript_of r' → SameReading bits place r bits' place' r'
  same-reading c h =
      let rs : x.rs ≡ y.rs = same_bytes (path-ranged x.path) (path-ranged y.path) (sym (transcript-is x) ∙ h ∙ transcript-is y) in
      let q = subst (λ (l : List Record). Path s (drop place' (bit_list bits')) l r'.state y.taken) (sym rs) y.path in
      (x.calls ∙ ap calls_of rs ∙ sym y.calls, consumed-is x ∙ same_bits_lem x.path q (sym x.clips ∙ c) ∙ sym (consumed-is y))

pub unique_reading : (s : State)
    → (list bits : List ℕ) (place : ℕ) (room : List ℕ)
    → (list' bits' : List ℕ) (place' : ℕ) (room' : List ℕ)
    → let r = ran_list s list bits place room in
    let r' = ran_list s list' bits' place' room' in
    (SameReading bits place r bits' place' r' → transcript_of r ≡ transcript_of r')
    × (OneUnclipped r r' → transcript_of r ≡ transcript_of r' → SameReading bits place r bits' place' r')
unique_reading s list bits place room list' bits' place' room' = (same-transcript x y, go)
  where
    r : Ran
    r = ran_list s list bits place room

    r' : Ran
    r' = ran_list s list' bits' place' room'

    x : Trace s bits place room 0 r
    x = list-trace s list bits place room

    y : Trace s bits' place' room' 0 r'
    y = list-trace s list' bits' place' room'

    go : OneUnclipped r r' → transcript_of r ≡ transcript_of r' → SameReading bits place r bits' place' r'
    go (inl c) h = same-reading x y c h
    go (inr c) h = let z = same-reading y x c (sym h) in (sym z.0, sym z.1)

-- two runs that clipped nothing: exactly when
pub unique_reading_unclipped : (s : State)
    → (list bits : List ℕ) (place : ℕ) (room : List ℕ)
    → (list' bits' : List ℕ) (place' : ℕ) (room' : List ℕ)
    → let r = ran_list s list bits place room in
    let r' = ran_list s list' bits' place' room' in
    r.clipped ≡ 0 → r'.clipped ≡ 0 → SameReading bits place r bits' place' r' ↔ (transcript_of r ≡ transcript_of r')
unique_reading_unclipped s list bits place room list' bits' place' room' c c' =
    let u = unique_reading s list bits place room list' bits' place' room' in (u.0, u.1 (inl c))

-- THE COUNT OF BITS that a run reports is the length of the bits that it consumed
pub bit-count : (s : State) (list bits : List ℕ) (place : ℕ) (room : List ℕ)
    → (list_left s list bits place room).report.consumed ≡ length (consumed bits place (ran_list s list bits place room))
unfolding list_left leaves
bit-count s list bits place room = sym (consumed-length (list-trace s list bits place room))
