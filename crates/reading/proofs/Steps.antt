-- The vectors one partition at a time, as the loop reads them: what holds before each partition, and what each answer says of the whole.
-- Assumes nothing.
use mathlib.Core.Path.{◌≡◌, refl, sym, ap, ap₂, subst, ◌∙◌}
use mathlib.Core.Bool.{Bool}
use mathlib.Core.List.{List}
use Prim.Native.Nat.{ℕ, suc, ◌+◌, ◌-◌, ◌*◌, ◌≤◌, ◌<◌}
use native.Mathlib.Numerals.{add-one}
use native.Mathlib.Omega.{arith}
use lib.IntN.{ℤ}
use lib.ListN.{drop}
use lib.Seq.{drop-drop}
use Rattle.refusal.specs.Got.{Got, got, refused, after, and_then, map_got}
use Rattle.refusal.specs.declared.Refusal.{Refusal}
use Rattle.refusal.proofs.Formats.{got-value, never}
use Rattle.bits.specs.Signed.{signed_code}
use Rattle.refusal.specs.Answered.{answered}
use Rattle.std.specs.Prelude.{Result, Ok, Err}
use Rattle.refusal.proofs.Answered.{Answered, answered-got, answered-refused}
use Rattle.levels.proofs.Gots.{after-zero, after-after}
use Rattle.reading.specs.Read.{Moving, moved, read_vectors}
use Rattle.vectors.specs.declared.window.Neighbours.{Neighbours}
use Rattle.reading.specs.InnerAnswers.{vectors_answer, Holds, Stepping, Vectoring}
use Rattle.reading.specs.declared.svq3_frame.Motion.{Motion}
use Rattle.refusal.proofs.Lists.{mapped}
use Rattle.reading.proofs.Vectors.{grown}

-- ---- what an answer says of the definition, and the other way round
pub vectors-answered : (at : ℕ) (g : Got Moving) (k next : ℕ) → Ok (k, next) ≡ vectors_answer at g → (m : Moving) × Answered at g m next × (k ≡ m.clipped)
vectors-answered at g k next e =
    let a = answered-got at (map_got (λ (m : Moving). m.clipped) g) k next e in
    let m = mapped (λ (m : Moving). m.clipped) g k a.taken a.is in
    (m.0, record { taken = a.taken; is = m.1; moved = a.moved }, sym m.2)

pub vectors-refused : (at : ℕ) (g : Got Moving) (r : Refusal) → Err r ≡ vectors_answer at g → g ≡ refused r
vectors-refused at (got m n) r e = absurd (let z : ◌≡◌ {A = ℕ} 0 1 = cc in omega arith)
vectors-refused at (refused x) r e = ap refused (cc)

answer-of : (at : ℕ) (g : Got Moving) (m : Moving) (k next : ℕ) → Answered at g m next → k ≡ m.clipped → Ok (k, next) ≡ vectors_answer at g
answer-of at g m k next a e = ap₂ (λ (c n : ℕ). Ok (c, n)) e a.moved ∙ sym (ap (vectors_answer at) a.is)

-- ---- one partition
module _ (motion : Motion) (i : ℕ) (m : Moving) (s : List Bool) (at : ℕ) where
  abbrev behind-dy : ℤ → List Bool → Got Moving
  behind-dy dy u = and_then (signed_code u) u (λ dx rest. got (moved motion.mb.call motion.precision i m dy dx) 0)

  no-vertical : (r : Refusal) → Err r ≡ answered at (signed_code (drop at s)) → read_vectors motion.mb.call motion.precision 1 i m (drop at s) ≡ refused r
  unfolding read_vectors
  no-vertical r e = ap (λ (g : Got ℤ). and_then g (drop at s) behind-dy) (answered-refused at (signed_code (drop at s)) r e)

  module _ (dy : ℤ) (q : ℕ) (e : Ok (dy, q) ≡ answered at (signed_code (drop at s))) where
    vertical : (a : Answered at (signed_code (drop at s)) dy q) → read_vectors motion.mb.call motion.precision 1 i m (drop at s) ≡ after a.taken (behind-dy dy (drop q s))
    unfolding read_vectors
    vertical a =
        ap (λ (g : Got ℤ). and_then g (drop at s) behind-dy) a.is ∙ ap (λ (u : List Bool). after a.taken (behind-dy dy u)) (drop-drop a.taken at s ∙ ap (λ (n : ℕ). drop n s) (sym a.moved))

    no-horizontal : (r : Refusal) → Err r ≡ answered q (signed_code (drop q s)) → read_vectors motion.mb.call motion.precision 1 i m (drop at s) ≡ refused r
    no-horizontal r f =
        let a = answered-got at (signed_code (drop at s)) dy q e in
        vertical a ∙ ap (λ (g : Got ℤ). after a.taken (and_then g (drop q s) (λ dx rest. got (moved motion.mb.call motion.precision i m dy dx) 0))) (answered-refused q (signed_code (drop q s)) r f)

    both_read : (dx : ℤ) (next : ℕ) → Ok (dx, next) ≡ answered q (signed_code (drop q s)) → Answered at (read_vectors motion.mb.call motion.precision 1 i m (drop at s)) (moved motion.mb.call motion.precision i m dy dx) next
    both_read dx next f =
        let a = answered-got at (signed_code (drop at s)) dy q e in
        let b = answered-got q (signed_code (drop q s)) dx next f in
        record {
          taken = a.taken + (b.taken + 0);
          is = vertical a ∙ ap (λ (g : Got ℤ). after a.taken (and_then g (drop q s) (λ dx rest. got (moved motion.mb.call motion.precision i m dy dx) 0))) b.is;
          moved = omega (arith, a.moved, b.moved);
        }

  -- what the reader of one partition answers and leaves
  module _ {vectors : List ℤ} {near : Neighbours} where
    step-refused : (r : Refusal) → read_vectors motion.mb.call motion.precision 1 i m (drop at s) ≡ refused r → Stepping motion at (read_vectors motion.mb.call motion.precision 1 i m (drop at s)) (Err r) vectors near
    step-refused r e = record { answers = sym (ap (vectors_answer at) e); leaves = λ o n f. never (sym e ∙ f) }

    pub step-no-vertical : (r : Refusal) → Err r ≡ answered at (signed_code (drop at s)) → Stepping motion at (read_vectors motion.mb.call motion.precision 1 i m (drop at s)) (Err r) vectors near
    step-no-vertical r e = step-refused r (no-vertical r e)

    pub step-no-horizontal : (dy : ℤ) (q : ℕ) → Ok (dy, q) ≡ answered at (signed_code (drop at s)) → (r : Refusal) → Err r ≡ answered q (signed_code (drop q s))
        → Stepping motion at (read_vectors motion.mb.call motion.precision 1 i m (drop at s)) (Err r) vectors near
    step-no-horizontal dy q e r f = step-refused r (no-horizontal dy q e r f)

    -- dy' and dx' are the differences as they are passed on
    pub step-moved : (dy : ℤ) (q : ℕ) → Ok (dy, q) ≡ answered at (signed_code (drop at s)) → (dx : ℤ) (next : ℕ) → Ok (dx, next) ≡ answered q (signed_code (drop q s))
        → (dy' dx' : ℤ) → dy' ≡ dy → dx' ≡ dx → (k : ℕ) → Holds (moved motion.mb.call motion.precision i m dy' dx') motion k vectors near
        → Stepping motion at (read_vectors motion.mb.call motion.precision 1 i m (drop at s)) (Ok (k, next)) vectors near
    step-moved dy q e dx next f dy' dx' y x k h' =
        let h = subst (λ (z : ℤ). Holds (moved motion.mb.call motion.precision i m dy z) motion k vectors near) x (subst (λ (z : ℤ). Holds (moved motion.mb.call motion.precision i m z dx') motion k vectors near) y h') in
        let a = both_read dy q e dx next f in
        record {
          answers = answer-of at (read_vectors motion.mb.call motion.precision 1 i m (drop at s)) (moved motion.mb.call motion.precision i m dy dx) k next a h.count;
          leaves = λ o n g.
              subst (λ (o : Moving). Holds o motion o.clipped vectors near) (got-value (sym a.is ∙ g)) (record { count = refl; stored = h.stored; follows = h.follows });
        }

-- ---- one partition, then those behind it
module _ (motion : Motion) where
  one_more : (n i : ℕ) (m : Moving) (s : List Bool) → read_vectors motion.mb.call motion.precision (suc n) i m s ≡ and_then (read_vectors motion.mb.call motion.precision 1 i m s) s (read_vectors motion.mb.call motion.precision n (suc i))
  unfolding read_vectors
  one_more n i m s = first (signed_code s)
    where
      rest : Moving → List Bool → Got Moving
      rest = read_vectors motion.mb.call motion.precision n (suc i)

      second : (dy : ℤ) (k : ℕ) (g : Got ℤ)
          → after k (and_then g (drop k s) (λ dx u. rest (moved motion.mb.call motion.precision i m dy dx) u)) ≡ and_then (after k (and_then g (drop k s) (λ dx u. got (moved motion.mb.call motion.precision i m dy dx) 0))) s rest
      second dy k (refused r) = refl
      second dy k (got dx l) =
          let m' = moved motion.mb.call motion.precision i m dy dx in
          let e : k + (l + 0) ≡ k + l = omega arith in
          after-after k l (rest m' (drop l (drop k s))) ∙ ap (λ (u : List Bool). after (k + l) (rest m' u)) (drop-drop l k s) ∙ ap (λ (j : ℕ). after j (rest m' (drop j s))) (sym e)

      first : (g : Got ℤ) → and_then g s (λ dy u. and_then (signed_code u) u (λ dx v. rest (moved motion.mb.call motion.precision i m dy dx) v))
          ≡ and_then (and_then g s (λ dy u. and_then (signed_code u) u (λ dx v. got (moved motion.mb.call motion.precision i m dy dx) 0))) s rest
      first (refused r) = refl
      first (got dy k) = second dy k (signed_code (drop k s))

  -- before partition i of n, at the place q: what was read, and what is still to be read
  pub record Going (n : ℕ) (m₀ : Moving) (s : List Bool) (at i q : ℕ) (m : Moving) : Type 0 where
    pub is : read_vectors motion.mb.call motion.precision n 0 m₀ (drop at s) ≡ after (q - at) (read_vectors motion.mb.call motion.precision (n - i) i m (drop q s))
    pub on : at ≤ q
    pub some : i ≤ n
    pub few : m.clipped ≤ m₀.clipped + 2 * i

  pub begins : (n : ℕ) (m : Moving) (s : List Bool) (at : ℕ) → Going n m s at 0 at m
  begins n m s at =
      let z : at - at ≡ 0 = omega arith in
      let k : n - 0 ≡ n = omega arith in
      record { is = rw (z, k) (sym (after-zero (read_vectors motion.mb.call motion.precision n 0 m (drop at s)))); on = omega arith; some = omega arith; few = omega arith }

  module _ {n : ℕ} {m₀ : Moving} {s : List Bool} {at i q : ℕ} {m : Moving} (g : Going n m₀ s at i q m) where
    step : i < n → read_vectors motion.mb.call motion.precision n 0 m₀ (drop at s) ≡ after (q - at) (and_then (read_vectors motion.mb.call motion.precision 1 i m (drop q s)) (drop q s) (read_vectors motion.mb.call motion.precision (n - suc i) (suc i)))
    step h =
        let e : n - i ≡ suc (n - suc i) = omega arith in
        g.is ∙ ap (after (q - at)) (ap (λ (k : ℕ). read_vectors motion.mb.call motion.precision k i m (drop q s)) e ∙ one_more (n - suc i) i m (drop q s))

    going_on : (m' : Moving) (next : ℕ) → i < n → Answered q (read_vectors motion.mb.call motion.precision 1 i m (drop q s)) m' next → Going n m₀ s at (i + 1) next m'
    going_on m' next h a =
        let rest : List Bool → Got Moving = read_vectors motion.mb.call motion.precision (n - suc i) (suc i) m' in
        let far : q - at + a.taken ≡ next - at = omega (arith, a.moved, g.on) in
        let there : drop a.taken (drop q s) ≡ drop next s = drop-drop a.taken q s ∙ ap (λ (k : ℕ). drop k s) (sym a.moved) in
        record {
          is = rw (add-one i) (step h ∙ ap (λ (b : Got Moving). after (q - at) (and_then b (drop q s) (read_vectors motion.mb.call motion.precision (n - suc i) (suc i)))) a.is
              ∙ after-after (q - at) a.taken (rest (drop a.taken (drop q s))) ∙ ap (λ (k : ℕ). after k (rest (drop a.taken (drop q s)))) far ∙ ap (λ (u : List Bool). after (next - at) (rest u)) there);
          on = omega (arith, a.moved, g.on);
          some = omega arith;
          few = omega (arith, g.few, (grown motion.mb.call motion.precision 1 i m m' (drop q s) a.taken a.is).at_most);
        }

    module _ {vectors : List ℤ} {near : Neighbours} (answer : Result (ℕ × ℕ) Refusal) (t : Stepping motion q (read_vectors motion.mb.call motion.precision 1 i m (drop q s)) answer vectors near) where
      pub goes_on : (k next : ℕ) → i < n → answer ≡ Ok (k, next) → (m' : Moving) × Going n m₀ s at (i + 1) next m' × Holds m' motion k vectors near
      goes_on k next h e =
          let a = vectors-answered q (read_vectors motion.mb.call motion.precision 1 i m (drop q s)) k next (sym e ∙ t.answers) in
          let l = t.leaves a.0 a.1.taken a.1.is in
          (a.0, going_on a.0 next h a.1, record { count = a.2; stored = l.stored; follows = l.follows })

      pub stops : (r : Refusal) (left : List ℤ) → i < n → answer ≡ Err r → Vectoring at (read_vectors motion.mb.call motion.precision n 0 m₀ (drop at s)) (Err r) left
      stops r left h e =
          let f = vectors-refused q (read_vectors motion.mb.call motion.precision 1 i m (drop q s)) r (sym e ∙ t.answers) in
          let w = step h ∙ ap (λ (b : Got Moving). after (q - at) (and_then b (drop q s) (read_vectors motion.mb.call motion.precision (n - suc i) (suc i)))) f in
          record { answers = sym (ap (vectors_answer at) w); leaves = λ o k x. never (sym w ∙ x) }

    pub ends : (k : ℕ) (vectors : List ℤ) → n ≤ i → k ≡ m.clipped → vectors ≡ m.vectors → Vectoring at (read_vectors motion.mb.call motion.precision n 0 m₀ (drop at s)) (Ok (k, q)) vectors
    unfolding read_vectors
    ends k vectors h e v =
        let z : n - i ≡ 0 = omega arith in
        let w : read_vectors motion.mb.call motion.precision n 0 m₀ (drop at s) ≡ got m (q - at + 0) = g.is ∙ ap (λ (j : ℕ). after (q - at) (read_vectors motion.mb.call motion.precision j i m (drop q s))) z in
        let f : q ≡ at + (q - at + 0) = omega (arith, g.on) in
        record { answers = ap₂ (λ (c n : ℕ). Ok (c, n)) e f ∙ sym (ap (vectors_answer at) w); leaves = λ o j x. v ∙ ap (λ (y : Moving). y.vectors) (got-value (sym w ∙ x)) }
