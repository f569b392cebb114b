-- What reading a macroblock answers: a record in every field's range, and, where nothing was clipped, from exactly the bits of that record.
-- Assumes nothing.
use mathlib.Core.Path.{◌≡◌, refl, sym, ap, ◌∙◌, subst}
use mathlib.Core.Bool.{Bool, true, false}
use mathlib.Core.List.{List, [], ◌++◌, append_assoc}
use Prim.Native.Nat.{ℕ, zero, suc, ◌+◌, ◌-◌, ◌*◌, ◌≤◌, ◌<◌}
use native.Mathlib.Omega.{arith}
use borrow.Author.Tests.{eqb-true, eqb-false, ne_eqb}
use lib.Dec.{eqb, lit≤, lit<}
use lib.IntN.{ℤ, pos}
use lib.ListN.{length, get_or, drop, replicate, length-drop, length-replicate, get_or-replicate}
use lib.Seq.{ext_get_or, get_or-drop}
use Rattle.ints.specs.Z.{when◌then◌else◌}
use Rattle.refusal.specs.Got.{Got, got, refused, map_got}
use Rattle.refusal.proofs.Formats.{got-value, got-count, never}
use Rattle.refusal.proofs.Local.{apart, Took, took-none, took-format, took-then}
use Rattle.levels.specs.Pattern.{pattern, pattern_bits}
use Rattle.levels.proofs.Patterns.{pattern-format}
use Rattle.vectors.specs.Modes.{num_motion_vectors}
use Rattle.vectors.specs.Precision.{precision, precision_bits}
use Rattle.vectors.proofs.Precisions.{precision-format, of_number, number-most}
use Rattle.vectors.proofs.Partitions.{num-most}
use Rattle.vectors.specs.declared.svq3_mb.Svq3MvPrecision.{Svq3MvPrecision}
use Rattle.state.specs.declared.Call.{Call}
use Rattle.record.specs.Record.{Record, no_vectors, skip_record}
use Rattle.levels.specs.Items.{no_levels, read_items, items_bits}
use Rattle.record.specs.Range.{VectorsRange, CodedRange, RecordRange}
use Rattle.record.proofs.Blocks.{said}
use Rattle.levels.proofs.ItemFormats.{items-format}
use Rattle.state.specs.State.{Context}
use Rattle.reading.specs.Read.{Moving, read_vectors, read_quantiser, record_of, at_first, read_residual, read_coded, read_macroblock}
use Rattle.reading.specs.Bits.{call_of, vector_bits, quantiser_bits, coded_bits, bits_of}
use Rattle.reading.proofs.Vectors.{grown, vectors-took}
use Rattle.reading.proofs.Quantiser.{quantiser-most, quantiser-took}

-- the value before f
record Mapped {X Y : Type 0} (f : X → Y) (a : Got X) (y : Y) (n : ℕ) : Type 0 where
  pub x : X
  pub is : a ≡ got x n
  pub value : f x ≡ y

mapped : {X Y : Type 0} (f : X → Y) (a : Got X) (y : Y) (n : ℕ) → map_got f a ≡ got y n → Mapped f a y n
mapped f (refused why) y n e = never e
mapped f (got x m) y n e = record { x = x; is = ap (got x) (got-count e); value = got-value e }

-- ---- what was read of a macroblock that is no skip, field by field
record Parts (c : Context) (call : Call) (s : List Bool) (r : Record) (n : ℕ) : Type 0 where
  pub p : Svq3MvPrecision
  pub m : Moving
  pub v : ℕ
  pub q : ℕ
  pub levels : List ℤ
  pub n₁ : ℕ
  pub n₂ : ℕ
  pub n₃ : ℕ
  pub n₄ : ℕ
  pub n₅ : ℕ
  pub precise : precision c.halfpel c.thirdpel s ≡ got p n₁
  pub moved : read_vectors call p (num_motion_vectors call.mode) 0 (at_first c.field) (drop n₁ s) ≡ got m n₂
  pub patterned : pattern (drop n₂ (drop n₁ s)) ≡ got v n₃
  pub quantised : read_quantiser c.delta c.quantiser v (drop n₃ (drop n₂ (drop n₁ s))) ≡ got q n₄
  pub listed : read_items 26 0 v no_levels (drop n₄ (drop n₃ (drop n₂ (drop n₁ s)))) ≡ got levels n₅
  pub whole : record_of call p m v q levels ≡ r
  pub sum : n₁ + (n₂ + (n₃ + (n₄ + n₅))) ≡ n

parts : (c : Context) (call : Call) (s : List Bool) (r : Record) (n : ℕ) → read_coded c call s ≡ got r n → Parts c call s r n
unfolding read_coded read_residual
parts c call s r n e =
    let a = apart (precision c.halfpel c.thirdpel s) _ s r n e in
    let s₁ = drop a.m s in
    let b = apart (read_vectors call a.x (num_motion_vectors call.mode) 0 (at_first c.field) s₁) _ s₁ r a.k a.second in
    let s₂ = drop b.m s₁ in
    let d = apart (pattern s₂) _ s₂ r b.k b.second in
    let s₃ = drop d.m s₂ in
    let f = apart (read_quantiser c.delta c.quantiser d.x s₃) _ s₃ r d.k d.second in
    let s₄ = drop f.m s₃ in
    let g = mapped (record_of call a.x b.x d.x f.x) (read_items 26 0 d.x no_levels s₄) r f.k f.second in
    record {
      p = a.x;
      m = b.x;
      v = d.x;
      q = f.x;
      levels = g.x;
      n₁ = a.m;
      n₂ = b.m;
      n₃ = d.m;
      n₄ = f.m;
      n₅ = f.k;
      precise = a.first;
      moved = b.first;
      patterned = d.first;
      quantised = f.first;
      listed = g.is;
      whole = g.value;
      sum = omega (arith, a.sum, b.sum, d.sum, f.sum);
    }

-- ---- the bits
coded-bits : (c : Context) (call : Call) (p : Svq3MvPrecision) (m : Moving) (v q : ℕ) (levels : List ℤ)
    → coded_bits c (record_of call p m v q levels)
    ≡ precision_bits c.halfpel c.thirdpel p ++ (vector_bits call p (num_motion_vectors call.mode) 0 c.field m.vectors ++ (pattern_bits v ++ (quantiser_bits c.delta c.quantiser v q ++ items_bits 26 0 v levels)))
unfolding coded_bits record_of
coded-bits c call p m v q levels = rw (of_number p) (simp append_assoc)

coded-took : (c : Context) (call : Call) (s : List Bool) (r : Record) (n : ℕ) → call.mode ≤ 7 → read_coded c call s ≡ got r n → r.head.clipped ≡ 0 → Took (coded_bits c r) s n
unfolding record_of at_first no_vectors
coded-took c call s r n mode e z =
    let a = parts c call s r n e in
    let few = num-most call.mode mode in
    let none : a.m.clipped ≡ 0 = ap (λ (x : Record). x.head.clipped) a.whole ∙ z in
    let v = vectors-took call a.p (num_motion_vectors call.mode) 0 (at_first c.field) a.m (drop a.n₁ s) a.n₂ (omega arith) a.moved (omega arith) in
    subst (λ (x : Record). Took (coded_bits c x) s n) a.whole
    (subst (λ (w : List Bool). Took w s n) (sym (coded-bits c call a.p a.m a.v a.q a.levels))
    (took-then (took-format (precision-format c.halfpel c.thirdpel) s a.p a.n₁ a.precise)
    (took-then v
    (took-then (took-format pattern-format _ a.v a.n₃ a.patterned)
    (took-then (quantiser-took c.delta c.quantiser a.v a.q _ a.n₄ a.quantised)
    (took-format (items-format a.v) _ a.levels a.n₅ a.listed) refl) refl) refl) a.sum))

-- the call of what was read is the call
coded-call : (c : Context) (call : Call) (s : List Bool) (r : Record) (n : ℕ) → read_coded c call s ≡ got r n → call ≡ call_of r
unfolding record_of
coded-call c call s r n e = ap call_of (parts c call s r n e).whole

-- ---- a skip, or not
data Kind (c : Context) (call : Call) (s : List Bool) (r : Record) (n : ℕ) : Type 0 where
  skipped : call.mode ≡ 0 → skip_record call.column call.row ≡ r → 0 ≡ n → Kind c call s r n
  coded : (call.mode ≡ 0 → ⊥) → read_coded c call s ≡ got r n → Kind c call s r n

kind : (c : Context) (call : Call) (s : List Bool) (r : Record) (n : ℕ) → read_macroblock c call s ≡ got r n → Kind c call s r n
unfolding read_macroblock when◌then◌else◌
kind c call s r n e = go (eqb call.mode 0) refl e
  where
    go : (t : Bool) → eqb call.mode 0 ≡ t → (when t then got (skip_record call.column call.row) 0 else read_coded c call s) ≡ got r n → Kind c call s r n
    go true h e = skipped (eqb-true call.mode 0 h) (got-value e) (got-count e)
    go false h e = coded (eqb-false call.mode 0 h) e

skip-bits : (c : Context) (column row : ℕ) → bits_of c (skip_record column row) ≡ []
unfolding bits_of when◌then◌else◌ skip_record
skip-bits c column row = refl

coded-bits-of : (c : Context) (r : Record) → (r.head.mode ≡ 0 → ⊥) → coded_bits c r ≡ bits_of c r
unfolding bits_of when◌then◌else◌
coded-bits-of c r h = rw (ne_eqb r.head.mode 0 h)

-- TOOK: where nothing was clipped, the bits taken are those of the record
pub read-took : (c : Context) (call : Call) (s : List Bool) (r : Record) (n : ℕ) → call.mode ≤ 7 → read_macroblock c call s ≡ got r n → r.head.clipped ≡ 0 → Took (bits_of c r) s n
read-took c call s r n mode e z = go (kind c call s r n e)
  where
    go : Kind c call s r n → Took (bits_of c r) s n
    go (skipped m x k) = subst (λ (t : Record). Took (bits_of c t) s n) x (subst (λ (w : List Bool). Took w s n) (sym (skip-bits c call.column call.row)) (subst (Took [] s) k (took-none s)))
    go (coded m x) =
        let h : call.mode ≡ r.head.mode = ap (λ (a : Call). a.mode) (coded-call c call s r n x) in
        subst (λ (w : List Bool). Took w s n) (coded-bits-of c r (λ y. m (h ∙ y))) (coded-took c call s r n mode x z)

-- ---- the ranges
length_none : length no_vectors ≡ 32
unfolding no_vectors
length_none = length-replicate 32 (pos 0)

skip_range : (cols rows column row : ℕ) → column < cols → row < rows → RecordRange cols rows (skip_record column row)
unfolding skip_record
skip_range cols rows column row x y = record { column = x; row = y; mode = lit≤ tt; skipped = λ z. refl; coded = λ h. absurd (omega arith) }

skip-call : (call : Call) → call.mode ≡ 0 → call ≡ call_of (skip_record call.column call.row)
unfolding skip_record
skip-call call h = λ i. record { column = call.column; row = call.row; mode = h i }

-- the vectors behind the last partition are 0
others : (n : ℕ) (vs : List ℤ) → n ≤ 32 → length vs ≡ 32 → ((j : ℕ) → n ≤ j → get_or vs j (pos 0) ≡ pos 0) → drop n vs ≡ replicate (32 - n) (pos 0)
others n vs h l z =
    ext_get_or (pos 0) (drop n vs) (replicate (32 - n) (pos 0)) (length-drop n vs ∙ ap (λ (k : ℕ). k - n) l ∙ sym (length-replicate (32 - n) (pos 0)))
    (λ i lt.
    let k : i < 32 - n = omega (arith, length-drop n vs) in
    rw (get_or-drop n vs i (pos 0), z (n + i) (omega arith), get_or-replicate (32 - n) i (pos 0) (pos 0) k))

none-at : (j : ℕ) → get_or no_vectors j (pos 0) ≡ pos 0
unfolding no_vectors
none-at j = go 32 j
  where
    go : (n j : ℕ) → get_or (replicate n (pos 0)) j (pos 0) ≡ pos 0
    go zero j = refl
    go (suc n) zero = refl
    go (suc n) (suc j) = go n j

vectors-range : (call : Call) (p : Svq3MvPrecision) (c : Context) (m : Moving) (s : List Bool) (k : ℕ) → call.mode ≤ 7
    → read_vectors call p (num_motion_vectors call.mode) 0 (at_first c.field) s ≡ got m k → VectorsRange (2 * num_motion_vectors call.mode) m.vectors
unfolding at_first
vectors-range call p c m s k mode e =
    let g = grown call p (num_motion_vectors call.mode) 0 (at_first c.field) m s k e in
    let few = num-most call.mode mode in
    let l : length m.vectors ≡ 32 = g.long ∙ length_none in
    record {
      count = l;
      fits = g.fits (λ j. rw (none-at j) (lit< tt));
      others = others (2 * num_motion_vectors call.mode) m.vectors (omega arith) l (λ j h. g.behind j (omega arith) ∙ none-at j);
    }

coded-range : (c : Context) (call : Call) (s : List Bool) (r : Record) (n : ℕ) → call.mode ≤ 7 → c.quantiser ≤ 31 → read_coded c call s ≡ got r n → CodedRange r
unfolding record_of at_first
coded-range c call s r n mode q e =
    let a = parts c call s r n e in
    let g = grown call a.p (num_motion_vectors call.mode) 0 (at_first c.field) a.m (drop a.n₁ s) a.n₂ a.moved in
    let v = (pattern-format.came (drop a.n₂ (drop a.n₁ s)) a.v a.n₃ a.patterned).in_range in
    subst CodedRange a.whole
    (record {
      precision = number-most a.p;
      clipped = omega (arith, g.at_most);
      vectors = vectors-range call a.p c a.m (drop a.n₁ s) a.n₂ mode a.moved;
      pattern = omega (arith, v);
      quantiser = quantiser-most c.delta c.quantiser a.v a.q (drop a.n₃ (drop a.n₂ (drop a.n₁ s))) a.n₄ q a.quantised;
      levels = said a.v a.levels ((items-format a.v).came (drop a.n₄ (drop a.n₃ (drop a.n₂ (drop a.n₁ s)))) a.levels a.n₅ a.listed).in_range;
    })

-- IN RANGE: what is read of a call inside the grid is a record of the grid
pub read-range : (c : Context) (call : Call) (cols rows : ℕ) (s : List Bool) (r : Record) (n : ℕ) → call.mode ≤ 7 → call.column < cols → call.row < rows → c.quantiser ≤ 31
    → read_macroblock c call s ≡ got r n → RecordRange cols rows r
read-range c call cols rows s r n mode x y q e = go (kind c call s r n e)
  where
    go : Kind c call s r n → RecordRange cols rows r
    go (skipped m h k) = subst (RecordRange cols rows) h (skip_range cols rows call.column call.row x y)
    go (coded m h) =
        let g : call ≡ call_of r = coded-call c call s r n h in
        let gm : call.mode ≡ r.head.mode = ap (λ (a : Call). a.mode) g in
        record {
          column = subst (λ (a : Call). a.column < cols) g x;
          row = subst (λ (a : Call). a.row < rows) g y;
          mode = subst (λ (a : Call). a.mode ≤ 7) g mode;
          skipped = λ z. absurd (m (gm ∙ z));
          coded = λ z. coded-range c call s r n mode q h;
        }

-- the record's call is the call
pub read-call : (c : Context) (call : Call) (s : List Bool) (r : Record) (n : ℕ) → read_macroblock c call s ≡ got r n → call ≡ call_of r
read-call c call s r n e = go (kind c call s r n e)
  where
    go : Kind c call s r n → call ≡ call_of r
    go (skipped m h k) = skip-call call m ∙ ap call_of h
    go (coded m h) = coded-call c call s r n h
