-- What the readers of the header and of the list answer, a number and a call at a time.
-- Assumes nothing.
use mathlib.Core.Path.{◌≡◌, refl, sym, ap, ◌∙◌}
use mathlib.Core.Bool.{true, false, ◌&&◌}
use mathlib.Core.List.{List, ◌∷◌}
use Prim.Native.Nat.{ℕ, suc, ◌+◌, ◌-◌, ◌≤◌, ◌<◌}
use native.Mathlib.Nat.{add-zero}
use native.Mathlib.Omega.{arith}
use lib.Dec.{leb}
use lib.ListN.{drop}
use lib.Seq.{drop-drop}
use Rattle.ints.specs.Z.{when◌then◌else◌}
use Rattle.refusal.specs.Got.{Got, got, refused, after, and_then, map_got}
use Rattle.refusal.specs.declared.Refusal.{Refusal}
use Rattle.refusal.specs.declared.Refusal.TheVariants.{FieldRange}
use Rattle.number.specs.Number.{read_number}
use Rattle.refusal.specs.Answered.{answered, reached}
use Rattle.std.specs.Prelude.{Ok, Err}
use Rattle.refusal.proofs.Answered.{answered-got, answered-refused}
use Rattle.state.specs.declared.Call.{Call}
use Rattle.run.specs.Calls.{call_in}
use Rattle.levels.proofs.Turns.{when_true, when_false}
use Rattle.printing.specs.Header.{ranged, header_in, calls_from}
use Rattle.printing.specs.declared.header.Header.{Header}

-- ---- a number in a range
module _ (at least most : ℕ) (s : List ℕ) where
  read-on : (v n : ℕ) → read_number s ≡ got v n → ranged least most s ≡ after n (when leb least v && leb v most then got v 0 else refused FieldRange)
  unfolding ranged
  read-on v n e = rw e

  pub within : (v next : ℕ) → Ok (v, next) ≡ answered at (read_number s) → (leb least v && leb v most) ≡ true → Ok (v, next) ≡ answered at (ranged least most s)
  within v next e h =
      let a = answered-got at (read_number s) v next e in
      ap (λ (k : ℕ). Ok (v, k)) (a.moved ∙ ap (λ (n : ℕ). at + n) (sym (add-zero a.taken)))
      ∙ sym (ap (answered at) (read-on v a.taken a.is ∙ ap (after a.taken) (when_true (leb least v && leb v most) (got v 0) (refused FieldRange) h)))

  pub beyond : (v next : ℕ) → Ok (v, next) ≡ answered at (read_number s) → (leb least v && leb v most) ≡ false → Err FieldRange ≡ answered at (ranged least most s)
  beyond v next e h =
      let a = answered-got at (read_number s) v next e in
      sym (ap (answered at) (read-on v a.taken a.is ∙ ap (after a.taken) (when_false (leb least v && leb v most) (got v 0) (refused FieldRange) h)))

  pub no-form : (why : Refusal) → Err why ≡ answered at (read_number s) → Err why ≡ answered at (ranged least most s)
  unfolding ranged
  no-form why e = rw (answered-refused at (read_number s) why e)

-- ---- the header, a number at a time
header-after : (at n : ℕ) (g : Got Header) → answered at (after n g) ≡ answered (at + n) g
header-after at n (got h m) = ap (λ (k : ℕ). Ok (h, k)) (omega arith)
header-after at n (refused why) = refl

module _ (s : List ℕ) (at : ℕ) (read : List ℕ → Got ℕ) where
  -- a number was read, and what follows it answers
  on : (next : ℕ → List ℕ → Got Header) {v p : ℕ} → Ok (v, p) ≡ answered at (read (drop at s)) → answered at (and_then (read (drop at s)) (drop at s) next) ≡ answered p (next v (drop p s))
  on next {v} {p} e =
      let a = answered-got at (read (drop at s)) v p e in
      rw a.is (header-after at a.taken (next v (drop a.taken (drop at s))) ∙ rw (drop-drop a.taken at s, ← a.moved))

  off : (next : ℕ → List ℕ → Got Header) {why : Refusal} → Err why ≡ answered at (read (drop at s)) → answered at (and_then (read (drop at s)) (drop at s) next) ≡ Err why
  off next {why} e = rw (answered-refused at (read (drop at s)) why e)

  last : (f : ℕ → Header) {v p : ℕ} → Ok (v, p) ≡ answered at (read (drop at s)) → answered at (map_got f (read (drop at s))) ≡ Ok (f v, p)
  last f {v} {p} e = let a = answered-got at (read (drop at s)) v p e in rw a.is (ap (λ (k : ℕ). Ok (f v, k)) (sym a.moved))

  last_off : (f : ℕ → Header) {why : Refusal} → Err why ≡ answered at (read (drop at s)) → answered at (map_got f (read (drop at s))) ≡ Err why
  last_off f {why} e = rw (answered-refused at (read (drop at s)) why e)

abbrev header_of : ℕ → ℕ → ℕ → ℕ → ℕ → ℕ → Header
header_of cols rows flags delta quantiser count = record { grid = record { cols = cols; rows = rows }; flags = flags; delta = delta; quantiser = quantiser; count = count }

-- what is read behind each number
abbrev from_count : ℕ → ℕ → ℕ → ℕ → ℕ → List ℕ → Got Header
from_count cols rows flags delta quantiser s = map_got (header_of cols rows flags delta quantiser) (ranged 0 16 s)

abbrev from_quantiser : ℕ → ℕ → ℕ → ℕ → List ℕ → Got Header
from_quantiser cols rows flags delta s = and_then (ranged 0 31 s) s (from_count cols rows flags delta)

abbrev from_delta : ℕ → ℕ → ℕ → List ℕ → Got Header
from_delta cols rows flags s = and_then (ranged 0 1 s) s (from_quantiser cols rows flags)

abbrev from_flags : ℕ → ℕ → List ℕ → Got Header
from_flags cols rows s = and_then (ranged 0 3 s) s (from_delta cols rows)

abbrev from_rows : ℕ → List ℕ → Got Header
from_rows cols s = and_then (ranged 1 4 s) s (from_flags cols)

module _ (s : List ℕ) where
  pub no-cols : {why : Refusal} → Err why ≡ answered 0 (ranged 1 4 s) → Err why ≡ answered 0 (header_in s)
  unfolding header_in
  no-cols e = sym (off s 0 (ranged 1 4) from_rows e)

  module _ {cols p₁ : ℕ} (e₁ : Ok (cols, p₁) ≡ answered 0 (ranged 1 4 s)) where
    h₁ : answered 0 (header_in s) ≡ answered p₁ (from_rows cols (drop p₁ s))
    unfolding header_in
    h₁ = on s 0 (ranged 1 4) from_rows e₁

    pub no_rows : {why : Refusal} → Err why ≡ answered p₁ (ranged 1 4 (drop p₁ s)) → Err why ≡ answered 0 (header_in s)
    no_rows e = sym (h₁ ∙ off s p₁ (ranged 1 4) (from_flags cols) e)

    module _ {rows p₂ : ℕ} (e₂ : Ok (rows, p₂) ≡ answered p₁ (ranged 1 4 (drop p₁ s))) where
      h₂ : answered 0 (header_in s) ≡ answered p₂ (from_flags cols rows (drop p₂ s))
      h₂ = h₁ ∙ on s p₁ (ranged 1 4) (from_flags cols) e₂

      pub no-flags : {why : Refusal} → Err why ≡ answered p₂ (ranged 0 3 (drop p₂ s)) → Err why ≡ answered 0 (header_in s)
      no-flags e = sym (h₂ ∙ off s p₂ (ranged 0 3) (from_delta cols rows) e)

      module _ {flags p₃ : ℕ} (e₃ : Ok (flags, p₃) ≡ answered p₂ (ranged 0 3 (drop p₂ s))) where
        h₃ : answered 0 (header_in s) ≡ answered p₃ (from_delta cols rows flags (drop p₃ s))
        h₃ = h₂ ∙ on s p₂ (ranged 0 3) (from_delta cols rows) e₃

        pub no-delta : {why : Refusal} → Err why ≡ answered p₃ (ranged 0 1 (drop p₃ s)) → Err why ≡ answered 0 (header_in s)
        no-delta e = sym (h₃ ∙ off s p₃ (ranged 0 1) (from_quantiser cols rows flags) e)

        module _ {delta p₄ : ℕ} (e₄ : Ok (delta, p₄) ≡ answered p₃ (ranged 0 1 (drop p₃ s))) where
          h₄ : answered 0 (header_in s) ≡ answered p₄ (from_quantiser cols rows flags delta (drop p₄ s))
          h₄ = h₃ ∙ on s p₃ (ranged 0 1) (from_quantiser cols rows flags) e₄

          pub no-quantiser : {why : Refusal} → Err why ≡ answered p₄ (ranged 0 31 (drop p₄ s)) → Err why ≡ answered 0 (header_in s)
          no-quantiser e = sym (h₄ ∙ off s p₄ (ranged 0 31) (from_count cols rows flags delta) e)

          module _ {quantiser p₅ : ℕ} (e₅ : Ok (quantiser, p₅) ≡ answered p₄ (ranged 0 31 (drop p₄ s))) where
            h₅ : answered 0 (header_in s) ≡ answered p₅ (from_count cols rows flags delta quantiser (drop p₅ s))
            h₅ = h₄ ∙ on s p₄ (ranged 0 31) (from_count cols rows flags delta) e₅

            pub no-count : {why : Refusal} → Err why ≡ answered p₅ (ranged 0 16 (drop p₅ s)) → Err why ≡ answered 0 (header_in s)
            no-count e = sym (h₅ ∙ last_off s p₅ (ranged 0 16) (header_of cols rows flags delta quantiser) e)

            pub whole : {count p₆ : ℕ} → Ok (count, p₆) ≡ answered p₅ (ranged 0 16 (drop p₅ s)) → Ok (header_of cols rows flags delta quantiser count, p₆) ≡ answered 0 (header_in s)
            whole e = sym (h₅ ∙ last s p₅ (ranged 0 16) (header_of cols rows flags delta quantiser) e)

-- ---- the list, a call at a time
list-after : (at n : ℕ) (call : Call) (g : Got (List Call)) → reached at (after n (map_got (λ calls. call ∷ calls) g)) ≡ reached (at + n) g
list-after at n call (got cs m) = ap Ok (omega arith)
list-after at n call (refused why) = refl

module _ (s : List ℕ) (p count i : ℕ) where
  pub list-none : count ≤ i → reached p (calls_from (count - i) (drop p s)) ≡ Ok p
  unfolding calls_from
  list-none h = let z : count - i ≡ 0 = omega arith in rw z (ap Ok (add-zero p))

  module _ (h : i < count) where
    turn : reached p (calls_from (count - i) (drop p s)) ≡ reached p (and_then (call_in (drop p s)) (drop p s) (λ call rest. map_got (λ calls. call ∷ calls) (calls_from (count - (i + 1)) rest)))
    unfolding calls_from
    turn = let z : count - i ≡ suc (count - (i + 1)) = omega arith in rw z

    pub list-stop : {why : Refusal} → Err why ≡ answered p (call_in (drop p s)) → reached p (calls_from (count - i) (drop p s)) ≡ Err why
    list-stop {why} e = turn ∙ rw (answered-refused p (call_in (drop p s)) why e)

    pub list_on : {call : Call} {next : ℕ} → Ok (call, next) ≡ answered p (call_in (drop p s)) → reached p (calls_from (count - i) (drop p s)) ≡ reached next (calls_from (count - (i + 1)) (drop next s))
    list_on {call} {next} e =
        let a = answered-got p (call_in (drop p s)) call next e in
        turn ∙ rw a.is (list-after p a.taken call (calls_from (count - (i + 1)) (drop a.taken (drop p s))) ∙ rw (drop-drop a.taken p s, ← a.moved))
