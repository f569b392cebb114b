-- The lists one at a time, and groups that are not coded, as the loops go over them: what holds before each list, and what each answer says of the whole.
-- Assumes nothing.
use mathlib.Core.Path.{◌≡◌, refl, sym, ap, ◌∙◌}
use mathlib.Core.Bool.{true, false}
use mathlib.Core.List.{List}
use Prim.Native.Nat.{ℕ, zero, suc, ◌+◌, ◌-◌, ◌≤◌, ◌<◌}
use native.Mathlib.Numerals.{add-one}
use native.Mathlib.Omega.{arith}
use lib.IntN.{ℤ}
use lib.ListN.{drop}
use lib.Seq.{sets, drop-drop}
use Rattle.refusal.specs.Got.{Got, got, refused, after, and_then, map_got}
use Rattle.refusal.specs.declared.Refusal.{Refusal}
use Rattle.refusal.proofs.Formats.{got-value, never}
use Rattle.refusal.specs.Answered.{reached}
use Rattle.levels.specs.InnerLevels.{Decoded}
use Rattle.refusal.specs.declared.Refusal.{Refusal}
use Rattle.std.specs.Prelude.{Result}
use Rattle.std.specs.Prelude.{Ok, Err}
use Rattle.levels.proofs.Gots.{after-zero, after-after}
use Rattle.levels.specs.Items.{item_coded, item_place, read_lists}
use Rattle.levels.specs.InnerItems.{Group}
use Rattle.levels.specs.InnerAnswers.{Left}
use Rattle.levels.proofs.ItemAnswers.{ended, refused-by, left_end, left-refused}
use Rattle.levels.proofs.Turns.{when_true, when_false}

-- a list that was read and stored at a place
pub stored : (at room : ℕ) (read : Got (List ℤ)) (out : List ℤ) (place : ℕ) (answer : Result ℕ Refusal) (left : List ℤ) → Decoded at room read out place answer left → Left at (map_got (sets out place) read) answer left
stored at room (got xs n) out place answer left d = record { answers = d.answers; leaves = λ ls k e. d.leaves ∙ got-value e }
stored at room (refused r) out place answer left d = record { answers = d.answers; leaves = λ ls k e. never e }

-- A GROUP THAT IS NOT CODED CHANGES NOTHING, whatever f says of the n lists from i on, as long as a list that is not coded changes nothing
module _ {A : Type 0} (pattern : ℕ) (f : ℕ → ℕ → A) (passed : (n i : ℕ) → item_coded pattern i ≡ false → f (suc n) i ≡ f n (suc i)) where
  group-passed : {i e : ℕ} → Group i e → item_coded pattern i ≡ false → f (26 - i) i ≡ f (26 - e) e
  group-passed {i} {e} g t = go (e - i) i (omega (arith, g.on)) (λ j a b. g.same pattern j a b ∙ t)
    where
      go : (k i : ℕ) → i + k ≡ e → ((j : ℕ) → i ≤ j → j < e → item_coded pattern j ≡ false) → f (26 - i) i ≡ f (26 - e) e
      go zero i h none = let z : i ≡ e = omega arith in ap (λ (n : ℕ). f (26 - n) n) z
      go (suc k) i h none =
          let z : 26 - i ≡ suc (26 - suc i) = omega (arith, g.most) in
          ap (λ (n : ℕ). f n i) z ∙ passed (26 - suc i) i (none i (omega arith) (omega arith)) ∙ go k (suc i) (omega arith) (λ j a b. none j (omega arith) b)

-- ---- reading in parts: what is left of a whole that was begun at the place `at`, when p is reached
pub record Rest (whole : Got (List ℤ)) (at p : ℕ) (rest : Got (List ℤ)) : Type 0 where
  pub is : whole ≡ after (p - at) rest
  pub on : at ≤ p

pub rest_all : (whole : Got (List ℤ)) (at : ℕ) → Rest whole at at whole
rest_all whole at =
    let z : at - at ≡ 0 = omega arith in
    record { is = rw z (sym (after-zero whole)); on = omega arith }

pub rest-is : {whole : Got (List ℤ)} {at p : ℕ} {a b : Got (List ℤ)} → a ≡ b → Rest whole at p a → Rest whole at p b
rest-is {at = at} {p = p} e g = record { is = g.is ∙ ap (after (p - at)) e; on = g.on }

-- a part, then what f reads behind it
module _ {E : Type 0} {whole : Got (List ℤ)} {at p : ℕ} {part : Got (List ℤ)} (s : List E) (f : List ℤ → List E → Got (List ℤ)) (g : Rest whole at p (and_then part (drop p s) f)) where
  pub rest-on : (answer : Result ℕ Refusal) (next : ℕ) (left : List ℤ) → answer ≡ Ok next → Left p part answer left → Rest whole at next (f left (drop next s))
  rest-on answer next left a l =
      let e = ended p part next left (rw a at l) in
      let far : p - at + e.taken ≡ next - at = omega (arith, e.moved, g.on) in
      let there : drop e.taken (drop p s) ≡ drop next s = drop-drop e.taken p s ∙ ap (λ (n : ℕ). drop n s) (sym e.moved) in
      record {
        is = g.is ∙ ap (λ (a : Got (List ℤ)). after (p - at) (and_then a (drop p s) f)) e.is
            ∙ after-after (p - at) e.taken (f left (drop e.taken (drop p s))) ∙ ap (λ (n : ℕ). after n (f left (drop e.taken (drop p s)))) far ∙ ap (λ (u : List E). after (next - at) (f left u)) there;
        on = omega (arith, e.moved, g.on);
      }

  pub rest-stops : (answer : Result ℕ Refusal) (r : Refusal) (left : List ℤ) → answer ≡ Err r → Left p part answer left → Left at whole (Err r) left
  rest-stops answer r left a l =
      left-refused at whole r left (g.is ∙ ap (λ (a : Got (List ℤ)). after (p - at) (and_then a (drop p s) f)) (refused-by p part r left (rw a at l)))

-- the last part
pub rest-answer : (whole : Got (List ℤ)) (at p : ℕ) (part : Got (List ℤ)) → Rest whole at p part → reached p part ≡ reached at whole
rest-answer whole at p (got ls n) g =
    let far : p + n ≡ at + (p - at + n) = omega (arith, g.on) in
    ap Ok far ∙ ap (reached at) (sym g.is)
rest-answer whole at p (refused r) g = ap (reached at) (sym g.is)

rest-last : {whole : Got (List ℤ)} {at p : ℕ} (part : Got (List ℤ)) (answer : Result ℕ Refusal) (left : List ℤ) → Rest whole at p part → Left p part answer left → Left at whole answer left
rest-last {whole} {at} {p} (got ls n) answer left g l =
    record { answers = l.answers ∙ rest-answer whole at p (got ls n) g; leaves = λ xs k e. l.leaves ls n refl ∙ got-value (sym g.is ∙ e) }
rest-last {whole} {at} {p} (refused r) answer left g l =
    record { answers = l.answers ∙ rest-answer whole at p (refused r) g; leaves = λ xs k e. never (sym g.is ∙ e) }

-- nothing is left
rest-none : {whole : Got (List ℤ)} {at p : ℕ} {ls : List ℤ} → Rest whole at p (got ls 0) → Left at whole (Ok p) ls
rest-none {p = p} {ls = ls} g = rest-last (got ls 0) (Ok p) ls g (left_end p (got ls 0) p 0 ls refl (omega arith))

-- what is read goes on as h has it
pub then-mapped : {E : Type 0} (h : List ℤ → List ℤ) (g : Got (List ℤ)) (s : List E) (f : List ℤ → List E → Got (List ℤ)) → and_then g s (λ found. f (h found)) ≡ and_then (map_got h g) s f
then-mapped h (got xs n) s f = refl
then-mapped h (refused r) s f = refl

module _ {E : Type 0} (read : ℕ → List E → Got (List ℤ)) (pattern : ℕ) where
  -- ---- one list, then those behind it
  pub one-coded : (n i : ℕ) (ls : List ℤ) (s : List E) → item_coded pattern i ≡ true → read_lists read (suc n) i pattern ls s ≡ and_then (map_got (sets ls (item_place i)) (read i s)) s (read_lists read n (suc i) pattern)
  unfolding read_lists
  one-coded n i ls s t = when_true (item_coded pattern i) _ _ t ∙ then-mapped (sets ls (item_place i)) (read i s) s (read_lists read n (suc i) pattern)

  pub one-passed : (n i : ℕ) (ls : List ℤ) (s : List E) → item_coded pattern i ≡ false → read_lists read (suc n) i pattern ls s ≡ read_lists read n (suc i) pattern ls s
  unfolding read_lists
  one-passed n i ls s t = when_false (item_coded pattern i) _ _ t

  -- ---- before list i, at the place p: the levels so far, and what is still to be read
  pub record Going (ls₀ : List ℤ) (s : List E) (at i p : ℕ) (ls : List ℤ) : Type 0 where
    pub rest : Rest (read_lists read 26 0 pattern ls₀ (drop at s)) at p (read_lists read (26 - i) i pattern ls (drop p s))
    pub some : i ≤ 26

  pub begins : (ls : List ℤ) (s : List E) (at : ℕ) → Going ls s at 0 at ls
  begins ls s at = record { rest = rest_all (read_lists read 26 0 pattern ls (drop at s)) at; some = omega arith }

  module _ {ls₀ : List ℤ} {s : List E} {at i p : ℕ} {ls : List ℤ} (g : Going ls₀ s at i p ls) where
    step : i < 26 → item_coded pattern i ≡ true
        → Rest (read_lists read 26 0 pattern ls₀ (drop at s)) at p (and_then (map_got (sets ls (item_place i)) (read i (drop p s))) (drop p s) (read_lists read (26 - suc i) (suc i) pattern))
    step h t =
        let e : 26 - i ≡ suc (26 - suc i) = omega arith in
        rest-is (ap (λ (n : ℕ). read_lists read n i pattern ls (drop p s)) e ∙ one-coded (26 - suc i) i ls (drop p s) t) g.rest

    pub goes_on : (answer : Result ℕ Refusal) (next : ℕ) (left : List ℤ) → i < 26 → item_coded pattern i ≡ true → answer ≡ Ok next → Left p (map_got (sets ls (item_place i)) (read i (drop p s))) answer left
        → Going ls₀ s at (i + 1) next left
    goes_on answer next left h t a l =
        record { rest = rw (add-one i) (rest-on s (read_lists read (26 - suc i) (suc i) pattern) (step h t) answer next left a l); some = omega arith }

    pub stops : (answer : Result ℕ Refusal) (r : Refusal) (left : List ℤ) → i < 26 → item_coded pattern i ≡ true → answer ≡ Err r → Left p (map_got (sets ls (item_place i)) (read i (drop p s))) answer left
        → Left at (read_lists read 26 0 pattern ls₀ (drop at s)) (Err r) left
    stops answer r left h t a l = rest-stops s (read_lists read (26 - suc i) (suc i) pattern) (step h t) answer r left a l

    pub passes : {e : ℕ} → Group i e → item_coded pattern i ≡ false → Going ls₀ s at e p ls
    passes r t = record {
      rest = rest-is (group-passed pattern (λ n j. read_lists read n j pattern ls (drop p s)) (λ n j. one-passed n j ls (drop p s)) r t) g.rest;
      some = r.most;
    }

    pub ends : 26 ≤ i → Left at (read_lists read 26 0 pattern ls₀ (drop at s)) (Ok p) ls
    unfolding read_lists
    ends h =
        let z : 26 - i ≡ 0 = omega arith in
        rest-none (rest-is (ap (λ (n : ℕ). read_lists read n i pattern ls (drop p s)) z) g.rest)
