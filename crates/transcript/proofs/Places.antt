-- A record as its column, row and mode and what follows them.
-- Assumes nothing.
use mathlib.Core.Path.{◌≡◌, refl, sym, ap, subst, ◌∙◌}
use mathlib.Core.Bool.{Bool, true, false, ◌&&◌}
use mathlib.Core.List.{List}
use Prim.Native.Nat.{ℕ, zero, suc, ◌+◌, ◌≤◌, ◌<◌}
use native.Mathlib.Nat.{add-zero, add_assoc}
use native.Mathlib.Omega.{arith}
use borrow.Author.Tests.{eqb-true, eq-eqb, ne_eqb, ltb-true, leb-true}
use lib.Dec.{leb, ltb, eqb}
use lib.IntN.{ℤ}
use lib.ListN.{drop}
use lib.Seq.{drop-drop}
use Rattle.ints.specs.Z.{when◌then◌else◌}
use Rattle.refusal.specs.Got.{Got, got, refused, after, and_then, map_got}
use Rattle.refusal.specs.declared.Refusal.{Refusal}
use Rattle.refusal.specs.declared.Refusal.TheVariants.{FieldRange}
use Rattle.refusal.proofs.Formats.{got-value, never}
use Rattle.number.specs.Number.{read_number}
use Rattle.refusal.specs.Answered.{answered}
use Rattle.std.specs.Prelude.{Result, Ok, Err}
use Rattle.refusal.proofs.Answered.{Answered, answered-got, answered-refused}
use Rattle.levels.proofs.Gots.{after-zero, after-after}
use Rattle.record.specs.Record.{Record, place_head, skip_record}
use Rattle.record.specs.Parse.{parse_motion, parse_record}
use Rattle.record.specs.declared.Head.{Head}
use Rattle.levels.proofs.Turns.{when_true, when_false}
use Rattle.record.proofs.Records.{all_three}
use Rattle.refusal.proofs.Lists.{mapped}
use Rattle.transcript.specs.InnerParsing.{start_of, place_answer, Parsing}
use Rattle.transcript.specs.InnerPlace.{parse_place}
use Rattle.refusal.specs.declared.Refusal.{Refusal}
use Rattle.transcript.specs.declared.parse.RecordStart.{RecordStart}
use Rattle.transcript.specs.declared.parse.RecordStart.TheVariants.{Skip, Coded}
use Rattle.std.specs.Prelude.{Result, Ok, Err}
use Rattle.transcript.proofs.Parsings.{parsing-on}

-- ---- three parts one after another
then-then : {X Y Z : Type 0} (g : Got X) (s : List ℕ) (k : X → List ℕ → Got Y) (m : Y → List ℕ → Got Z) → and_then (and_then g s k) s m ≡ and_then g s (λ x rest. and_then (k x rest) rest m)
then-then {Y = Y} {Z = Z} (got x n) s k m = go (k x (drop n s))
  where
    go : (a : Got Y) → and_then (after n a) s m ≡ after n (and_then a (drop n s) m)
    go (got y j) = sym (after-after n j (m y (drop j (drop n s))) ∙ ap (λ (u : List ℕ). after (n + j) (m y u)) (drop-drop j n s))
    go (refused r) = refl
then-then (refused r) s k m = refl

after-got : {X : Type 0} (a : ℕ) (g : Got X) (x : X) (n : ℕ) → after a g ≡ got x n → (m : ℕ) × (g ≡ got x m)
after-got a (got y m) x n e = (m, ap (λ (z : _). got z m) (got-value e))
after-got a (refused r) x n e = never e

then-got : {X Y : Type 0} (g : Got X) (s : List ℕ) (k : X → List ℕ → Got Y) (y : Y) (n : ℕ) → and_then g s k ≡ got y n → (x : X) × (rest : List ℕ) × (m : ℕ) × (k x rest ≡ got y m)
then-got (got x a) s k y n e = let b = after-got a (k x (drop a s)) y n e in (x, drop a s, b.0, b.1)
then-got (refused r) s k y n e = never e

-- ---- what stands behind the mode, and behind each number before it
unfoldable parse_rest : Head → List ℕ → Got Record
parse_rest h s = when eqb h.mode 0 then got (skip_record h.column h.row) 0 else parse_motion h s

module _ (cols rows : ℕ) where
  abbrev judge : ℕ → ℕ → ℕ → Bool
  judge column row mode = ltb column cols && ltb row rows && leb mode 7

  abbrev behind_mode : ℕ → ℕ → ℕ → List ℕ → Got Head
  behind_mode column row mode s = when judge column row mode then got (place_head column row mode) 0 else refused FieldRange

  abbrev behind_row : ℕ → ℕ → List ℕ → Got Head
  behind_row column row s = and_then (read_number s) s (behind_mode column row)

  abbrev behind_column : ℕ → List ℕ → Got Head
  behind_column column s = and_then (read_number s) s (behind_row column)

  behind-judged : (column row mode : ℕ) (u : List ℕ) (t : Bool)
      → and_then (when t then got (place_head column row mode) 0 else refused FieldRange) u parse_rest
      ≡ (when t then (when eqb mode 0 then got (skip_record column row) 0 else parse_motion (place_head column row mode) u) else refused FieldRange)
  unfolding when◌then◌else◌ parse_rest
  behind-judged column row mode u true = after-zero (parse_rest (place_head column row mode) u)
  behind-judged column row mode u false = refl

  -- A RECORD IS ITS PLACE AND MODE, THEN THE REST
  record-parts : (s : List ℕ) → parse_record cols rows s ≡ and_then (parse_place cols rows s) s parse_rest
  unfolding parse_record parse_place
  record-parts s =
      sym (then-then (read_number s) s behind_column parse_rest ∙ ap (and_then (read_number s) s) (λ i column s₁.
      (then-then (read_number s₁) s₁ (behind_row column) parse_rest ∙ ap (and_then (read_number s₁) s₁) (λ j row s₂.
      (then-then (read_number s₂) s₂ (behind_mode column row) parse_rest ∙ ap (and_then (read_number s₂) s₂) (λ k mode s₃. behind-judged column row mode s₃ (judge column row mode) k)) j)) i))

  -- what place and mode are
  pub record PlaceRange (h : Head) : Type 0 where
    pub column : h.column < cols
    pub row : h.row < rows
    pub mode : h.mode ≤ 7

  judged-range : (h : Head) (column row mode m : ℕ) (t : Bool) → judge column row mode ≡ t → (when t then got (place_head column row mode) 0 else refused FieldRange) ≡ got h m → PlaceRange h
  unfolding when◌then◌else◌
  judged-range h column row mode m true i f =
      let j = all_three (ltb column cols) (ltb row rows) (leb mode 7) i in
      subst PlaceRange (got-value f) (record { column = ltb-true column cols j.0; row = ltb-true row rows j.1; mode = leb-true mode 7 j.2 })
  judged-range h column row mode m false i f = never f

  place-range : (s : List ℕ) (h : Head) (n : ℕ) → parse_place cols rows s ≡ got h n → PlaceRange h
  unfolding parse_place
  place-range s h n e =
      let a = then-got (read_number s) s behind_column h n e in
      let b = then-got (read_number a.1) a.1 (behind_row a.0) h a.2 a.3 in
      let c = then-got (read_number b.1) b.1 (behind_mode a.0 b.0) h b.2 b.3 in
      judged-range h a.0 b.0 c.0 c.2 (judge a.0 b.0 c.0) refl c.3

-- ---- column, row and mode, read one after another
answer-on : (at n : ℕ) (g : Got Head) → place_answer at (after n g) ≡ place_answer (at + n) g
answer-on at n (got h m) = ap (λ (k : ℕ). Ok (start_of h, k)) (sym (add_assoc at n m))
answer-on at n (refused r) = refl

module _ (at : ℕ) (s : List ℕ) (k : ℕ → List ℕ → Got Head) where
  number-then : (v next : ℕ) → Ok (v, next) ≡ answered at (read_number (drop at s)) → place_answer next (k v (drop next s)) ≡ place_answer at (and_then (read_number (drop at s)) (drop at s) k)
  number-then v next e =
      let a = answered-got at (read_number (drop at s)) v next e in
      sym (ap (λ (g : Got ℕ). place_answer at (and_then g (drop at s) k)) a.is ∙ answer-on at a.taken (k v (drop a.taken (drop at s)))
      ∙ ap (λ (u : List ℕ). place_answer (at + a.taken) (k v u)) (drop-drop a.taken at s) ∙ ap (λ (i : ℕ). place_answer i (k v (drop i s))) (sym a.moved))

  no_number : (r : Refusal) → Err r ≡ answered at (read_number (drop at s)) → Err r ≡ place_answer at (and_then (read_number (drop at s)) (drop at s) k)
  no_number r e = sym (ap (λ (g : Got ℕ). place_answer at (and_then g (drop at s) k)) (answered-refused at (read_number (drop at s)) r e))

module _ (cols rows : ℕ) (s : List ℕ) (at : ℕ) where
  abbrev Whole : Result (RecordStart × ℕ) Refusal → Type 0
  Whole answer = answer ≡ place_answer at (parse_place cols rows (drop at s))

  pub no-column : (r : Refusal) → Err r ≡ answered at (read_number (drop at s)) → Err r ≡ place_answer at (parse_place cols rows (drop at s))
  unfolding parse_place
  no-column r e = no_number at s (behind_column cols rows) r e

  module _ (column p : ℕ) (e : Ok (column, p) ≡ answered at (read_number (drop at s))) where
    with-column : (answer : Result (RecordStart × ℕ) Refusal) → answer ≡ place_answer p (behind_column cols rows column (drop p s)) → Whole answer
    unfolding parse_place
    with-column answer k = k ∙ number-then at s (behind_column cols rows) column p e

    pub no_row : (r : Refusal) → Err r ≡ answered p (read_number (drop p s)) → Whole (Err r)
    no_row r f = with-column (Err r) (no_number p s (behind_row cols rows column) r f)

    module _ (row q : ℕ) (f : Ok (row, q) ≡ answered p (read_number (drop p s))) where
      with_row : (answer : Result (RecordStart × ℕ) Refusal) → answer ≡ place_answer q (behind_row cols rows column row (drop q s)) → Whole answer
      with_row answer k = with-column answer (k ∙ number-then p s (behind_row cols rows column) row q f)

      pub no_mode : (r : Refusal) → Err r ≡ answered q (read_number (drop q s)) → Whole (Err r)
      no_mode r g = with_row (Err r) (no_number q s (behind_mode cols rows column row) r g)

      module _ (mode next : ℕ) (g : Ok (mode, next) ≡ answered q (read_number (drop q s))) where
        with_mode : (t : Bool) → judge cols rows column row mode ≡ t → (answer : Result (RecordStart × ℕ) Refusal) → answer ≡ place_answer next (when t then got (place_head column row mode) 0 else refused FieldRange) → Whole answer
        with_mode t i answer k =
            with_row answer (k ∙ ap (λ (b : Bool). place_answer next (when b then got (place_head column row mode) 0 else refused FieldRange)) (sym i)
            ∙ number-then q s (behind_mode cols rows column row) mode next g)

        pub outside : judge cols rows column row mode ≡ false → Whole (Err FieldRange)
        unfolding when◌then◌else◌
        outside t = with_mode false t (Err FieldRange) refl

        pub is-skip : judge cols rows column row mode ≡ true → mode ≡ 0 → Whole (Ok (Skip column row, next))
        unfolding start_of when◌then◌else◌
        is-skip t z = with_mode true t (Ok (Skip column row, next)) (rw (eq-eqb mode 0 z) (ap (λ (k : ℕ). Ok (Skip column row, k)) (sym (add-zero next))))

        pub is-coded : judge cols rows column row mode ≡ true → (mode ≡ 0 → ⊥) → (o : Head) → o ≡ place_head column row mode → Whole (Ok (Coded o, next))
        unfolding start_of when◌then◌else◌
        is-coded t z o i =
            with_mode true t (Ok (Coded o, next)) (rw (ne_eqb mode 0 z) (ap (λ (x : Head). Ok (Coded x, next)) i ∙ ap (λ (k : ℕ). Ok (Coded (place_head column row mode), k)) (sym (add-zero next))))

-- ---- the record whose place was read
-- where a skip is answered, and where another record is
record Placed (at : ℕ) (g : Got Head) (next : ℕ) (Of : Head → Type 0) : Type 0 where
  head : Head
  taken : ℕ
  is : g ≡ got head taken
  moved : next ≡ at + taken
  of : Of head

-- what stands there, and the place behind it
start-placed : (at : ℕ) (g : Got Head) (start : RecordStart) (next : ℕ) → Ok (start, next) ≡ place_answer at g → Placed at g next (λ h. start ≡ start_of h)
start-placed at g start next e = go (mapped start_of g start a.taken a.is)
  where
    a : Answered at (map_got start_of g) start next
    a = answered-got at (map_got start_of g) start next e

    go : ((h : Head) × (g ≡ got h a.taken) × (start_of h ≡ start)) → Placed at g next (λ h. start ≡ start_of h)
    go m = record { head = m.0; taken = a.taken; is = m.1; moved = a.moved; of = sym m.2 }

skip-placed : (at : ℕ) (g : Got Head) (column row next : ℕ) → Ok (Skip column row, next) ≡ place_answer at g → Placed at g next (λ h. (h.mode ≡ 0) × (column ≡ h.column) × (row ≡ h.row))
unfolding start_of when◌then◌else◌
skip-placed at g column row next e =
    let p = start-placed at g (Skip column row) next e in
    record { head = p.head; taken = p.taken; is = p.is; moved = p.moved; of = go p.head (eqb p.head.mode 0) refl p.of }
  where
    go : (h : Head) (t : Bool) → eqb h.mode 0 ≡ t → Skip column row ≡ (when t then Skip h.column h.row else Coded h) → (h.mode ≡ 0) × (column ≡ h.column) × (row ≡ h.row)
    go h true i f = (eqb-true h.mode 0 i, cc, cc)
    go h false i f = absurd (let z : ◌≡◌ {A = ℕ} 0 1 = cc in omega arith)

coded-placed : (at : ℕ) (g : Got Head) (h : Head) (next : ℕ) → Ok (Coded h, next) ≡ place_answer at g → Placed at g next (λ o. (o ≡ h) × (h.mode ≡ 0 → ⊥))
unfolding start_of when◌then◌else◌
coded-placed at g h next e =
    let p = start-placed at g (Coded h) next e in
    record { head = p.head; taken = p.taken; is = p.is; moved = p.moved; of = go p.head (eqb p.head.mode 0) refl p.of }
  where
    go : (o : Head) (t : Bool) → eqb o.mode 0 ≡ t → Coded h ≡ (when t then Skip o.column o.row else Coded o) → (o ≡ h) × (h.mode ≡ 0 → ⊥)
    go o true i f = absurd (let z : ◌≡◌ {A = ℕ} 0 1 = cc in omega arith)
    go o false i f =
        let k : o ≡ h = cc in
        (k, λ z. absurd (let x = sym i ∙ eq-eqb o.mode 0 (ap (λ (y : Head). y.mode) k ∙ z) in let w : ◌≡◌ {A = ℕ} 0 1 = cc in omega arith))

not-placed : (at : ℕ) (g : Got Head) (r : Refusal) → Err r ≡ place_answer at g → g ≡ refused r
not-placed at (refused q) r e = ap refused (cc)
not-placed at (got h n) r e = absurd (let z : ◌≡◌ {A = ℕ} 0 1 = cc in omega arith)

-- a skip, as the definition of a record has it
pub record SkipRead (cols rows : ℕ) (s : List ℕ) (at column row next : ℕ) : Type 0 where
  pub taken : ℕ
  pub is : parse_record cols rows (drop at s) ≡ got (skip_record column row) taken
  pub moved : next ≡ at + taken
  pub across : column < cols
  pub down : row < rows

-- another record: what follows its mode
pub record CodedRead (cols rows : ℕ) (s : List ℕ) (at : ℕ) (h : Head) (next : ℕ) : Type 0 where
  pub taken : ℕ
  pub is : parse_record cols rows (drop at s) ≡ after taken (parse_motion h (drop next s))
  pub moved : next ≡ at + taken
  pub range : PlaceRange cols rows h
  pub coded : 0 < h.mode

module _ (cols rows : ℕ) (s : List ℕ) (at : ℕ) where
  with-place : (h : Head) (n : ℕ) → parse_place cols rows (drop at s) ≡ got h n → parse_record cols rows (drop at s) ≡ after n (parse_rest h (drop (at + n) s))
  with-place h n e =
      record-parts cols rows (drop at s) ∙ ap (λ (g : Got Head). and_then g (drop at s) parse_rest) e ∙ ap (λ (u : List ℕ). after n (parse_rest h u)) (drop-drop n at s)

  -- A RECORD IS WHAT THE ANSWER ABOUT ITS PLACE SAYS
  pub not-read : (r : Refusal) → Err r ≡ place_answer at (parse_place cols rows (drop at s)) → parse_record cols rows (drop at s) ≡ refused r
  not-read r e = record-parts cols rows (drop at s) ∙ ap (λ (g : Got Head). and_then g (drop at s) parse_rest) (not-placed at (parse_place cols rows (drop at s)) r e)

  pub skip_read : (column row next : ℕ) → Ok (Skip column row, next) ≡ place_answer at (parse_place cols rows (drop at s)) → SkipRead cols rows s at column row next
  unfolding parse_rest
  skip_read column row next e =
      let p = skip-placed at (parse_place cols rows (drop at s)) column row next e in
      let r = place-range cols rows (drop at s) p.head p.taken p.is in
      record {
        taken = p.taken + 0;
        is = with-place p.head p.taken p.is
            ∙ ap (after p.taken) (when_true (eqb p.head.mode 0) (got (skip_record p.head.column p.head.row) 0) (parse_motion p.head (drop (at + p.taken) s)) (eq-eqb p.head.mode 0 p.of.0))
            ∙ sym (λ i. got (skip_record (p.of.1 i) (p.of.2 i)) (p.taken + 0));
        moved = omega (arith, p.moved);
        across = omega (arith, r.column, p.of.1);
        down = omega (arith, r.row, p.of.2);
      }

  pub coded-read : (h : Head) (next : ℕ) → Ok (Coded h, next) ≡ place_answer at (parse_place cols rows (drop at s)) → CodedRead cols rows s at h next
  unfolding parse_rest
  coded-read h next e =
      let p = coded-placed at (parse_place cols rows (drop at s)) h next e in
      let there = p.is ∙ ap (λ (x : Head). got x p.taken) p.of.0 in
      let r = place-range cols rows (drop at s) h p.taken there in
      record {
        taken = p.taken;
        is = with-place h p.taken there
            ∙ ap (after p.taken) (when_false (eqb h.mode 0) (got (skip_record h.column h.row) 0) (parse_motion h (drop (at + p.taken) s)) (ne_eqb h.mode 0 p.of.1))
            ∙ ap (λ (k : ℕ). after p.taken (parse_motion h (drop k s))) (sym p.moved);
        moved = p.moved;
        range = r;
        coded = some h.mode p.of.1;
      }
    where
      some : (n : ℕ) → (n ≡ 0 → ⊥) → 0 < n
      some zero z = absurd (z refl)
      some (suc n) z = omega arith

  -- what reading the rest of it answers and leaves is the record's
  pub coded-parsed : (h : Head) (next : ℕ) → Ok (Coded h, next) ≡ place_answer at (parse_place cols rows (drop at s)) → (answer : Result (Head × ℕ) Refusal) (vs ls : List ℤ) → Parsing next (parse_motion h (drop next s)) answer vs ls
      → Parsing at (parse_record cols rows (drop at s)) answer vs ls
  coded-parsed h next e answer vs ls p = let c = coded-read h next e in rw c.is (parsing-on at c.taken next (parse_motion h (drop next s)) answer vs ls c.moved p)
