-- Readers that depend on what they take alone, and take no more than there is; readers made of such readers are such.
-- Assumes nothing.
use mathlib.Core.Path.{◌≡◌, refl, sym, ap, ◌∙◌}
use mathlib.Core.List.{List, [], ◌∷◌, ◌++◌, append_assoc}
use Prim.Native.Nat.{ℕ, zero, suc, ◌+◌, ◌≤◌}
use native.Mathlib.Omega.{arith}
use native.Mathlib.Nat.{zero-add, suc-add}
use lib.ListN.{length, take, drop, length-drop, length-append}
use lib.Seq.{take-take, take-nil, drop_at}
use Rattle.refusal.specs.declared.Refusal.{Refusal}
use Rattle.refusal.specs.Got.{Got, got, refused, after, and_then, map_got}
use Rattle.refusal.specs.Format.{Format}
use Rattle.refusal.proofs.Formats.{got-value, got-count, never, local, bounded}

pub record Local {E X : Type 0} (read : List E → Got X) : Type 0 where
  pub there : (s : List E) (x : X) (n : ℕ) → read s ≡ got x n → n ≤ length s
  pub alone : (s t : List E) (x : X) (n : ℕ) → read s ≡ got x n → take n s ≡ take n t → read t ≡ got x n

pub of_format : {E X : Type 0} {read : List E → Got X} {write : X → List E} {fine : X → Type 0} → Format read write fine → Local read
of_format f = record { there = bounded f; alone = local f }

-- nothing is read
pub of-got : {E X : Type 0} (x : X) → Local {E = E} (λ s. got x 0)
of-got x = record { there = λ s y n e. omega (arith, got-count e); alone = λ s t y n e h. e }

pub of-refused : {E X : Type 0} (why : Refusal) → Local {E = E} {X = X} (λ s. refused why)
of-refused why = record { there = λ s y n e. never e; alone = λ s t y n e h. e }

-- ---- what is taken behind the first m
middle : {E : Type 0} (m k : ℕ) (l : List E) → drop m (take (m + k) l) ≡ take k (drop m l)
middle zero k l = ap (λ (n : ℕ). take n l) (zero-add k)
middle (suc m) k [] = rw (suc-add m k) (sym (take-nil k))
middle (suc m) k (x ∷ l) = rw (suc-add m k) (middle m k l)

pub same-behind : {E : Type 0} (m k : ℕ) (s t : List E) → take (m + k) s ≡ take (m + k) t → take k (drop m s) ≡ take k (drop m t)
same-behind m k s t e = sym (middle m k s) ∙ ap (drop m) e ∙ middle m k t

pub same-before : {E : Type 0} (m k : ℕ) (s t : List E) → take (m + k) s ≡ take (m + k) t → take m s ≡ take m t
same-before m k s t e = sym (take-take m (m + k) s (omega arith)) ∙ ap (take m) e ∙ take-take m (m + k) t (omega arith)

-- ---- one reader, then another on what follows: what both answered
pub record Both {E X Y : Type 0} (a : Got X) (g : X → List E → Got Y) (s : List E) (y : Y) (n : ℕ) : Type 0 where
  pub x : X
  pub m : ℕ
  pub k : ℕ
  pub first : a ≡ got x m
  pub second : g x (drop m s) ≡ got y k
  pub sum : m + k ≡ n

pub apart : {E X Y : Type 0} (a : Got X) (g : X → List E → Got Y) (s : List E) (y : Y) (n : ℕ) → and_then a s g ≡ got y n → Both a g s y n
apart (refused why) g s y n e = never e
apart {E} {X} {Y} (got x m) g s y n e = two (g x (drop m s)) refl e
  where
    two : (b : Got Y) → g x (drop m s) ≡ b → after m b ≡ got y n → Both (got x m) g s y n
    two (refused why) q e = never e
    two (got y' k) q e = record { x = x; m = m; k = k; first = refl; second = q ∙ ap (λ (z : Y). got z k) (got-value e); sum = got-count e }

module _ {E X Y : Type 0} {f : List E → Got X} {g : X → List E → Got Y} (F : Local f) (G : (x : X) → Local (g x)) where
  pub then-local : Local (λ s. and_then (f s) s g)
  then-local = record {
    there = λ s y n e.
        let b = apart (f s) g s y n e in
        omega (arith, b.sum, F.there s b.x b.m b.first, (G b.x).there (drop b.m s) y b.k b.second, length-drop b.m s);
    alone = λ s t y n e h.
        let b = apart (f s) g s y n e in
        let h' : take (b.m + b.k) s ≡ take (b.m + b.k) t = rw b.sum h in
        rw (F.alone s t b.x b.m b.first (same-before b.m b.k s t h'), (G b.x).alone (drop b.m s) (drop b.m t) y b.k b.second (same-behind b.m b.k s t h'), b.sum);
  }

-- ---- the value as f has it
pub map-local : {E X Y : Type 0} {read : List E → Got X} (f : X → Y) → Local read → Local (λ s. map_got f (read s))
map-local {E} {X} {Y} {read} f F = record { there = λ s y n e. there s y n (read s) refl e; alone = λ s t y n e h. alone s t y n h (read s) refl e }
  where
    there : (s : List E) (y : Y) (n : ℕ) (a : Got X) → read s ≡ a → map_got f a ≡ got y n → n ≤ length s
    there s y n (refused why) p e = never e
    there s y n (got x m) p e = omega (arith, got-count e, F.there s x m p)

    alone : (s t : List E) (y : Y) (n : ℕ) → take n s ≡ take n t → (a : Got X) → read s ≡ a → map_got f a ≡ got y n → map_got f (read t) ≡ got y n
    alone s t y n h (refused why) p e = never e
    alone s t y n h (got x m) p e =
        let h' : take m s ≡ take m t = rw (got-count e) h in
        rw (F.alone s t x m p h') e

-- ---- n elements were taken, and they are w
pub record Took {E : Type 0} (w s : List E) (n : ℕ) : Type 0 where
  pub rest : List E
  pub is : s ≡ w ++ rest
  pub taken : n ≡ length w

pub took-none : {E : Type 0} (s : List E) → Took [] s 0
took-none s = record { rest = s; is = refl; taken = refl }

pub took-format : {E X : Type 0} {read : List E → Got X} {write : X → List E} {fine : X → Type 0} → Format read write fine
    → (s : List E) (x : X) (n : ℕ) → read s ≡ got x n → Took (write x) s n
took-format f s x n e = let c = f.came s x n e in record { rest = c.starts.rest; is = c.starts.is; taken = c.taken }

pub took-then : {E : Type 0} {w v s : List E} {m k n : ℕ} → Took w s m → Took v (drop m s) k → m + k ≡ n → Took (w ++ v) s n
took-then {E} {w} {v} {s} {m} {k} {n} a b e =
    let d : drop m s ≡ a.rest = ap (drop m) a.is ∙ drop_at w a.rest m (sym a.taken) in
    record {
      rest = b.rest;
      is = a.is ∙ ap (λ (t : List E). w ++ t) (sym d ∙ b.is) ∙ sym (append_assoc w v b.rest);
      taken = omega (arith, e, a.taken, b.taken, length-append w v);
    }
