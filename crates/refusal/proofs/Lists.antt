-- Laws of values read until their list ends: enough turns give one answer, the first value is in front of those of the rest, and a loop counts them.
-- Assumes nothing.
use mathlib.Core.Path.{◌≡◌, refl, sym, ap, ◌∙◌}
use mathlib.Core.List.{List, [], ◌∷◌}
use Prim.Native.Nat.{ℕ, zero, suc, ◌+◌, ◌≤◌, ◌<◌}
use native.Mathlib.Nat.{not-suc-le-zero}
use native.Mathlib.Omega.{arith}
use lib.ListN.{length, drop, length-drop, drop_of_length-le}
use lib.Seq.{drop-drop}
use Rattle.refusal.specs.Got.{Got, got, refused, after, and_then, map_got}
use Rattle.refusal.specs.declared.Refusal.{Refusal}
use Rattle.refusal.proofs.Formats.{got-value, got-count, never}
use Rattle.refusal.proofs.Local.{apart}
use Rattle.refusal.specs.Until.{until_end}

-- a reader that takes an element at least, and no more than there are
pub record Takes {E X : Type 0} (read : List E → Got X) : Type 0 where
  pub takes : (s : List E) (x : X) (n : ℕ) → read s ≡ got x n → (1 ≤ n) × (n ≤ length s)

-- the first value of a list and what follows it
pub record First {E X : Type 0} (read : List E → Got X) (all : List E → Got (List X)) (s : List E) (xs : List X) (n : ℕ) : Type 0 where
  pub x : X
  pub rest : List X
  pub k : ℕ
  pub m : ℕ
  pub is : xs ≡ x ∷ rest
  pub reads : read s ≡ got x k
  pub some : 1 ≤ k
  pub there : k ≤ length s
  pub behind : all (drop k s) ≡ got rest m
  pub sum : n ≡ k + m

-- the same of a list whose first value stands at the place p
pub record Next {E X : Type 0} (read : List E → Got X) (all : List E → Got (List X)) (s : List E) (p : ℕ) (xs : List X) : Type 0 where
  pub x : X
  pub rest : List X
  pub k : ℕ
  pub m : ℕ
  pub is : xs ≡ x ∷ rest
  pub reads : read (drop p s) ≡ got x k
  pub some : 1 ≤ k
  pub there : p + k ≤ length s
  pub behind : all (drop (p + k) s) ≡ got rest m

-- what the value of an answer was before f
pub mapped : {X Y : Type 0} (f : X → Y) (g : Got X) (y : Y) (n : ℕ) → map_got f g ≡ got y n → (x : X) × (g ≡ got x n) × (f x ≡ y)
mapped f (got x m) y n e = (x, ap (got x) (got-count e), got-value e)
mapped f (refused r) y n e = never e

module _ {E X : Type 0} (read : List E → Got X) where
  -- all values of a list
  abbrev pub until_all : List E → Got (List X)
  until_all s = until_end read (length s) s

  pub until-end : (turns : ℕ) → until_end read turns [] ≡ got [] 0
  unfolding until_end
  until-end zero = refl
  until-end (suc turns) = refl

  -- a turn
  pub until-turn : (turns : ℕ) (s : List E) → 0 < length s → until_end read (suc turns) s ≡ and_then (read s) s (λ x rest. map_got (λ xs. x ∷ xs) (until_end read turns rest))
  unfolding until_end
  until-turn turns [] h = absurd (not-suc-le-zero h)
  until-turn turns (e ∷ s) h = refl

module _ {E X : Type 0} {read : List E → Got X} (t : Takes read) where
  same_turn : (turns turns' : ℕ) (s : List E) → length s ≤ suc turns → length s ≤ suc turns'
      → ((u : List E) → length u ≤ turns → length u ≤ turns' → until_end read turns u ≡ until_end read turns' u)
      → (g : Got X) → read s ≡ g → and_then g s (λ x rest. map_got (λ xs. x ∷ xs) (until_end read turns rest)) ≡ and_then g s (λ x rest. map_got (λ xs. x ∷ xs) (until_end read turns' rest))
  same_turn turns turns' s h h' same (refused r) p = refl
  same_turn turns turns' s h h' same (got x n) p =
      let k = t.takes s x n p in
      let l = length-drop n s in
      ap (λ (g : Got (List X)). after n (map_got (λ xs. x ∷ xs) g)) (same (drop n s) (omega arith) (omega arith))

  no-turn : (turns' : ℕ) (s : List E) → length s ≤ 0 → until_end read zero s ≡ until_end read turns' s
  no-turn turns' [] h = until-end read zero ∙ sym (until-end read turns')
  no-turn turns' (e ∷ s) h = absurd (not-suc-le-zero h)

  turn_more : (turns : ℕ) → ((turns' : ℕ) (u : List E) → length u ≤ turns → length u ≤ turns' → until_end read turns u ≡ until_end read turns' u)
      → (turns' : ℕ) (s : List E) → length s ≤ suc turns → length s ≤ turns' → until_end read (suc turns) s ≡ until_end read turns' s
  turn_more turns same turns' [] h h' = until-end read (suc turns) ∙ sym (until-end read turns')
  turn_more turns same zero (e ∷ s) h h' = absurd (not-suc-le-zero h')
  turn_more turns same (suc turns') (e ∷ s) h h' =
      until-turn read turns (e ∷ s) (omega arith)
      ∙ same_turn turns turns' (e ∷ s) h h' (same turns') (read (e ∷ s)) refl
      ∙ sym (until-turn read turns' (e ∷ s) (omega arith))

  -- enough turns give the same
  pub until-more : (turns turns' : ℕ) (s : List E) → length s ≤ turns → length s ≤ turns' → until_end read turns s ≡ until_end read turns' s
  until-more zero turns' s h h' = no-turn turns' s h
  until-more (suc turns) turns' s h h' = turn_more turns (λ m u. until-more turns m u) turns' s h h'

  -- the values of a list that has an element: what the first one's reader says, then the values of what follows it
  pub until-first : (s : List E) → 0 < length s → until_all read s ≡ and_then (read s) s (λ x rest. map_got (λ xs. x ∷ xs) (until_all read rest))
  until-first [] h = absurd (not-suc-le-zero h)
  until-first (e ∷ s) h = until-turn read (length s) (e ∷ s) h ∙ go (read (e ∷ s)) refl
    where
      go : (g : Got X) → read (e ∷ s) ≡ g → and_then g (e ∷ s) (λ x rest. map_got (λ xs. x ∷ xs) (until_end read (length s) rest)) ≡ and_then g (e ∷ s) (λ x rest. map_got (λ xs. x ∷ xs) (until_all read rest))
      go (refused r) p = refl
      go (got x n) p =
          let k = t.takes (e ∷ s) x n p in
          let l = length-drop n (e ∷ s) in
          ap (λ (g : Got (List X)). after n (map_got (λ xs. x ∷ xs) g)) (until-more (length s) (length (drop n (e ∷ s))) (drop n (e ∷ s)) (omega arith) (omega arith))

  -- values were read from it: the first of them, and the values of what follows
  pub until-got : (s : List E) (xs : List X) (n : ℕ) → 0 < length s → until_all read s ≡ got xs n → First read (until_all read) s xs n
  until-got s xs n h e =
      let b = apart (read s) (λ x rest. map_got (λ ys. x ∷ ys) (until_all read rest)) s xs n (sym (until-first s h) ∙ e) in
      let k = t.takes s b.x b.m b.first in
      let o = mapped (λ ys. b.x ∷ ys) (until_all read (drop b.m s)) xs b.k b.second in
      record { x = b.x; rest = o.0; k = b.m; m = b.k; is = sym o.2; reads = b.first; some = k.0; there = k.1; behind = o.1; sum = sym b.sum }

  -- the same of a loop that stands at the place p
  pub until-next : (s : List E) (p : ℕ) (xs : List X) (n : ℕ) → p < length s → until_all read (drop p s) ≡ got xs n → Next read (until_all read) s p xs
  until-next s p xs n h e =
      let l = length-drop p s in
      let f = until-got (drop p s) xs n (omega arith) e in
      record { x = f.x; rest = f.rest; k = f.k; m = f.m; is = f.is; reads = f.reads; some = f.some; there = omega (arith, f.there); behind = ap (until_all read) (sym (drop-drop f.k p s)) ∙ f.behind }

-- none were read from an empty one
pub until_none : {E X : Type 0} (read : List E → Got X) (s : List E) (xs : List X) (n : ℕ) → length s ≡ 0 → until_all read s ≡ got xs n → xs ≡ []
until_none read [] xs n h e = sym (got-value (sym (until-end read 0) ∙ e))
until_none read (b ∷ s) xs n h e = absurd (omega arith)

-- ---- a loop that counts the values of a list: its answer, where c were counted before
abbrev pub tally : {X A : Type 0} → (ℕ → A) → (Refusal → A) → ℕ → Got (List X) → A
tally counted stopped c (got xs n) = counted (c + length xs)
tally counted stopped c (refused r) = stopped r

-- it stands at the place p, and what it will answer for what is left is what it has to answer for all
pub record Counting {E X A : Type 0} (read : List E → Got X) (counted : ℕ → A) (stopped : Refusal → A) (answer : A) (s : List E) (p c : ℕ) : Type 0 where
  pub is : answer ≡ tally counted stopped c (until_all read (drop p s))
  pub there : p ≤ length s
  pub few : c ≤ p

module _ {E X A : Type 0} {read : List E → Got X} {counted : ℕ → A} {stopped : Refusal → A} {answer : A} {s : List E} where
  pub counting : answer ≡ tally counted stopped 0 (until_all read s) → Counting read counted stopped answer s 0 0
  counting e = record { is = e; there = omega arith; few = omega arith }

  module _ {p c : ℕ} (k : Counting read counted stopped answer s p c) where
    pub count-end : length s ≤ p → answer ≡ counted c
    count-end h = k.is ∙ rw (drop_of_length-le s h, until-end read 0) (ap counted (omega arith))

    module _ (t : Takes read) (h : p < length s) where
      pub count-stop : (r : Refusal) → read (drop p s) ≡ refused r → answer ≡ stopped r
      count-stop r e = let l = length-drop p s in k.is ∙ rw (until-first t (drop p s) (omega arith), e)

      pub count-on : (x : X) (n next : ℕ) → read (drop p s) ≡ got x n → next ≡ p + n → Counting read counted stopped answer s next (c + 1)
      count-on x n next e m =
          let l = length-drop p s in
          let d = t.takes (drop p s) x n e in
          rw m (record { is = k.is ∙ rw (until-first t (drop p s) (omega arith), e, drop-drop n p s) (go (until_all read (drop (p + n) s))); there = omega arith; few = omega (arith, k.few) })
        where
          go : (g : Got (List X)) → tally counted stopped c (after n (map_got (λ xs. x ∷ xs) g)) ≡ tally counted stopped (c + 1) g
          go (got xs m) = ap counted (omega arith)
          go (refused r) = refl
