-- A macroblock read part by part: what each part's answer says of the whole.
-- Assumes nothing.
use mathlib.Core.Path.{◌≡◌, refl, sym, ap, subst, ◌∙◌}
use mathlib.Core.Bool.{Bool}
use mathlib.Core.List.{List}
use Prim.Native.Nat.{ℕ, ◌+◌}
use native.Mathlib.Nat.{add_assoc}
use lib.IntN.{ℤ}
use lib.ListN.{drop}
use lib.Seq.{drop-drop}
use Rattle.refusal.specs.Got.{Got, got, refused, after, and_then, map_got}
use Rattle.refusal.specs.declared.Refusal.{Refusal}
use Rattle.refusal.proofs.Formats.{got-value, never}
use Rattle.refusal.proofs.Answered.{Answered, answered-got, answered-refused}
use Rattle.refusal.specs.Answered.{answered}
use Rattle.std.specs.Prelude.{Result, Ok, Err}
use Rattle.levels.specs.Pattern.{pattern}
use Rattle.vectors.specs.Modes.{num_motion_vectors}
use Rattle.vectors.specs.Precision.{precision, precision_number}
use Rattle.vectors.specs.declared.svq3_mb.Svq3MvPrecision.{Svq3MvPrecision}
use Rattle.state.specs.declared.Call.{Call}
use Rattle.record.specs.Record.{Record}
use Rattle.levels.specs.Items.{no_levels, read_items}
use Rattle.levels.specs.InnerAnswers.{Left}
use Rattle.record.specs.declared.Head.{Head}
use Rattle.levels.proofs.ItemAnswers.{ended, refused-by}
use Rattle.state.specs.State.{Context}
use Rattle.reading.specs.Read.{Moving, read_vectors, read_quantiser, record_of, at_first, read_residual, read_coded}
use Rattle.reading.specs.InnerAnswers.{read_answer, Vectoring, Reading}
use Rattle.reading.proofs.Steps.{vectors-answered, vectors-refused}

-- ---- one part, then what follows it
reading-refused : (at : ℕ) (g : Got Record) (r : Refusal) (vs ls : List ℤ) → g ≡ refused r → Reading at g (Err r) vs ls
reading-refused at g r vs ls e = record { answers = ap (read_answer at) (sym e); leaves = λ o n f. never (sym e ∙ f) }

module _ {X : Type 0} (at : ℕ) (s : List Bool) (g : Got X) (k : X → List Bool → Got Record) (vs ls : List ℤ) where
  answer-on : (n : ℕ) (b : Got Record) → read_answer at (after n b) ≡ read_answer (at + n) b
  answer-on n (got r m) = ap (λ (n : ℕ). Ok (r.head, n)) (sym (add_assoc at n m))
  answer-on n (refused r) = refl

  on : (x : X) (next : ℕ) (answer : Result (Head × ℕ) Refusal) → Answered at g x next → Reading next (k x (drop next s)) answer vs ls → Reading at (and_then g (drop at s) k) answer vs ls
  on x next answer a p =
      let n = a.taken in
      let there : drop n (drop at s) ≡ drop next s = drop-drop n at s ∙ ap (λ (i : ℕ). drop i s) (sym a.moved) in
      let whole : and_then g (drop at s) k ≡ after n (k x (drop next s)) = ap (λ (b : Got X). and_then b (drop at s) k) a.is ∙ ap (λ (u : List Bool). after n (k x u)) there in
      record {
        answers = p.answers ∙ ap (λ (i : ℕ). read_answer i (k x (drop next s))) a.moved ∙ sym (answer-on n (k x (drop next s))) ∙ ap (read_answer at) (sym whole);
        leaves = λ r j f. left (k x (drop next s)) refl r j (sym whole ∙ f);
      }
    where
      left : (b : Got Record) → k x (drop next s) ≡ b → (r : Record) (j : ℕ) → after a.taken b ≡ got r j → (vs ≡ r.vectors) × (ls ≡ r.levels)
      left (got q i) e r j f = subst (λ (o : Record). (vs ≡ o.vectors) × (ls ≡ o.levels)) (got-value f) (p.leaves q i e)
      left (refused x) e r j f = never f

  off : (r : Refusal) → g ≡ refused r → Reading at (and_then g (drop at s) k) (Err r) vs ls
  off r e = reading-refused at (and_then g (drop at s) k) r vs ls (ap (λ (b : Got X). and_then b (drop at s) k) e)

-- ---- levels, at the end of a record
module _ (at : ℕ) (g : Got (List ℤ)) (f : List ℤ → Record) (left : List ℤ) (answer : Result ℕ Refusal) (l : Left at g answer left) where
  levels-on : (next : ℕ) (o : Head) (vs : List ℤ) → answer ≡ Ok next → o ≡ (f left).head → vs ≡ (f left).vectors → left ≡ (f left).levels → Reading at (map_got f g) (Ok (o, next)) vs left
  levels-on next o vs a i v w =
      let e = ended at g next left (rw a at l) in
      let whole : map_got f g ≡ got (f left) e.taken = ap (map_got f) e.is in
      record {
        answers = ap (λ (x : Head). Ok (x, next)) i ∙ ap (λ (n : ℕ). Ok ((f left).head, n)) e.moved ∙ ap (read_answer at) (sym whole);
        leaves = λ r n x. let o = got-value (sym whole ∙ x) in (v ∙ ap (λ (x : Record). x.vectors) o, w ∙ ap (λ (x : Record). x.levels) o);
      }

  levels-off : (r : Refusal) (vs : List ℤ) → answer ≡ Err r → Reading at (map_got f g) (Err r) vs left
  levels-off r vs a = reading-refused at (map_got f g) r vs left (ap (map_got f) (refused-by at g r left (rw a at l)))

-- ---- pattern, quantiser, levels
module _ (delta : Bool) (before : ℕ) (call : Call) (p : Svq3MvPrecision) (m : Moving) (s : List Bool) (at : ℕ) (left : List ℤ) where
  abbrev behind_quantiser : ℕ → ℕ → List Bool → Got Record
  behind_quantiser v q u = map_got (record_of call p m v q) (read_items 26 0 v no_levels u)

  abbrev behind_pattern : ℕ → List Bool → Got Record
  behind_pattern v u = and_then (read_quantiser delta before v u) u (behind_quantiser v)

  pub no-pattern : (r : Refusal) → Err r ≡ answered at (pattern (drop at s)) → Reading at (read_residual delta before call p m (drop at s)) (Err r) m.vectors left
  unfolding read_residual
  no-pattern r e = off at s (pattern (drop at s)) behind_pattern m.vectors left r (answered-refused at (pattern (drop at s)) r e)

  module _ (v b : ℕ) (e : Ok (v, b) ≡ answered at (pattern (drop at s))) where
    with-pattern : (answer : Result (Head × ℕ) Refusal) → Reading b (behind_pattern v (drop b s)) answer m.vectors left → Reading at (read_residual delta before call p m (drop at s)) answer m.vectors left
    unfolding read_residual
    with-pattern answer k = on at s (pattern (drop at s)) behind_pattern m.vectors left v b answer (answered-got at (pattern (drop at s)) v b e) k

    pub no-quantiser : (r : Refusal) → Err r ≡ answered b (read_quantiser delta before v (drop b s)) → Reading at (read_residual delta before call p m (drop at s)) (Err r) m.vectors left
    no-quantiser r f = with-pattern (Err r) (off b s (read_quantiser delta before v (drop b s)) (behind_quantiser v) m.vectors left r (answered-refused b (read_quantiser delta before v (drop b s)) r f))

    module _ (q d : ℕ) (f : Ok (q, d) ≡ answered b (read_quantiser delta before v (drop b s))) (ls : List ℤ) (zero : ls ≡ no_levels) (answer : Result ℕ Refusal) (l : Left d (read_items 26 0 v ls (drop d s)) answer left) where
      with-quantiser : (answer : Result (Head × ℕ) Refusal) → Reading d (behind_quantiser v q (drop d s)) answer m.vectors left → Reading at (read_residual delta before call p m (drop at s)) answer m.vectors left
      with-quantiser answer k =
          with-pattern answer (on b s (read_quantiser delta before v (drop b s)) (behind_quantiser v) m.vectors left q d answer (answered-got b (read_quantiser delta before v (drop b s)) q d f) k)

      pub no-levels : (r : Refusal) → answer ≡ Err r → Reading at (read_residual delta before call p m (drop at s)) (Err r) m.vectors left
      no-levels r a = with-quantiser (Err r) (levels-off d (read_items 26 0 v no_levels (drop d s)) (record_of call p m v q) left answer (rw zero at l) r m.vectors a)

      pub with-levels : (next number clipped : ℕ) → answer ≡ Ok next → number ≡ precision_number p → clipped ≡ m.clipped
          → Reading at (read_residual delta before call p m (drop at s)) (Ok (record { column = call.column; row = call.row; mode = call.mode; precision = number; clipped = clipped; pattern = v; quantiser = q }, next)) m.vectors left
      unfolding record_of
      with-levels next number clipped a i k =
          with-quantiser _
          (levels-on d (read_items 26 0 v no_levels (drop d s)) (record_of call p m v q) left answer (rw zero at l) next _ m.vectors a
          (λ j. record { column = call.column; row = call.row; mode = call.mode; precision = i j; clipped = k j; pattern = v; quantiser = q }) refl refl)

-- ---- precision, vectors, and what follows
module _ (c : Context) (call : Call) (s : List Bool) (at : ℕ) (vs ls : List ℤ) where
  abbrev whole : Result (Head × ℕ) Refusal → Type 0
  whole answer = Reading at (read_coded c call (drop at s)) answer vs ls

  abbrev vectors_of : Svq3MvPrecision → List Bool → Got Moving
  vectors_of p = read_vectors call p (num_motion_vectors call.mode) 0 (at_first c.field)

  abbrev behind_vectors : Svq3MvPrecision → Moving → List Bool → Got Record
  behind_vectors p m = read_residual c.delta c.quantiser call p m

  abbrev behind_precision : Svq3MvPrecision → List Bool → Got Record
  behind_precision p u = and_then (vectors_of p u) u (behind_vectors p)

  pub no-precision : (r : Refusal) → Err r ≡ answered at (precision c.halfpel c.thirdpel (drop at s)) → whole (Err r)
  unfolding read_coded
  no-precision r e = let g = precision c.halfpel c.thirdpel (drop at s) in off at s g behind_precision vs ls r (answered-refused at g r e)

  module _ (p : Svq3MvPrecision) (b : ℕ) (e : Ok (p, b) ≡ answered at (precision c.halfpel c.thirdpel (drop at s))) (answer : Result (ℕ × ℕ) Refusal) (t : Vectoring b (vectors_of p (drop b s)) answer vs) where
    with-precision : (answer : Result (Head × ℕ) Refusal) → Reading b (behind_precision p (drop b s)) answer vs ls → whole answer
    unfolding read_coded
    with-precision answer k = let g = precision c.halfpel c.thirdpel (drop at s) in on at s g behind_precision vs ls p b answer (answered-got at g p b e) k

    pub no-vectors : (r : Refusal) → answer ≡ Err r → whole (Err r)
    no-vectors r a = with-precision (Err r) (off b s (vectors_of p (drop b s)) (behind_vectors p) vs ls r (vectors-refused b (vectors_of p (drop b s)) r (sym a ∙ t.answers)))

    pub with-vectors : (clipped next : ℕ) (o : Result (Head × ℕ) Refusal) → answer ≡ Ok (clipped, next)
        → ((m : Moving) → clipped ≡ m.clipped → Reading next (read_residual c.delta c.quantiser call p m (drop next s)) o m.vectors ls) → whole o
    with-vectors clipped next o a k =
        let g = vectors_of p (drop b s) in
        let m = vectors-answered b g clipped next (sym a ∙ t.answers) in
        let v : vs ≡ m.0.vectors = t.leaves m.0 m.1.taken m.1.is in
        with-precision o (on b s g (behind_vectors p) vs ls m.0 next o m.1 (subst (λ (x : List ℤ). Reading next (behind_vectors p m.0 (drop next s)) o x ls) (sym v) (k m.0 m.2)))
