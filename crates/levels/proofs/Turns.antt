-- Formats as a record needs them: the same format said otherwise, a value that reads nothing, a test, and a part that is read before what it belongs to.
-- Assumes nothing.
use mathlib.Core.Path.{◌≡◌, refl, sym, ap, subst, ◌∙◌}
use mathlib.Core.Bool.{Bool, true, false}
use mathlib.Core.List.{List, [], ◌++◌}
use Prim.Native.Nat.{ℕ}
use native.Mathlib.Omega.{arith}
use lib.ListN.{drop}
use Rattle.ints.specs.Z.{when◌then◌else◌}
use Rattle.refusal.specs.Got.{Got, got, refused, after, and_then, map_got}
use Rattle.refusal.specs.Format.{Format}
use Rattle.refusal.specs.declared.Refusal.{Refusal}
use Rattle.refusal.proofs.Formats.{got-value, got-count, never, pair_read, pair_fine, in-turn, renamed}

-- ---- a test on a Bool
pub when_true : {A : Type 0} (t : Bool) (x y : A) → t ≡ true → when t then x else y ≡ x
unfolding when◌then◌else◌
when_true t x y e = rw e

pub when_false : {A : Type 0} (t : Bool) (x y : A) → t ≡ false → when t then x else y ≡ y
unfolding when◌then◌else◌
when_false t x y e = rw e

pub not-both : {A : Type 0} {t : Bool} → t ≡ true → t ≡ false → A
not-both p q = absurd (let z : ◌≡◌ {A = ℕ} 0 1 = cc in omega arith)

-- ---- one format, said otherwise
module _ {E X : Type 0} {f : List E → Got X} {wf : X → List E} {okf : X → Type 0} (F : Format f wf okf)
    (g : List E → Got X) (wg : X → List E) (okg : X → Type 0)
    (same : (s : List E) → g s ≡ f s) (written : (x : X) → okg x → wg x ≡ wf x) (to : (x : X) → okf x → okg x) (back : (x : X) → okg x → okf x) where
  pub restated : Format g wg okg
  restated = record {
    reads = λ x rest h. rw (written x h) (same (wf x ++ rest) ∙ F.reads x rest (back x h));
    came = λ s x n e.
        let c = F.came s x n (sym (same s) ∙ e) in
        let ok = to x c.in_range in
        record { in_range = ok; starts = record { rest = c.starts.rest; is = rw (written x ok) c.starts.is }; taken = rw (written x ok) c.taken };
  }

-- ---- a value for which nothing is written
pub unwritten : {E X : Type 0} (x : X) → Format {E = E} (λ s. got x 0) (λ y. []) (λ y. y ≡ x)
unwritten x = record {
  reads = λ y rest e. ap (λ z. got z 0) (sym e);
  came = λ s y n e. record { in_range = sym (got-value e); starts = record { rest = s; is = refl }; taken = sym (got-count e) };
}

-- ---- a test that does not depend on the bytes: one format or the other
module _ {E X : Type 0} (t : Bool) {f g : List E → Got X} {wf wg : X → List E} {okf okg : X → Type 0} where
  pub chosen : (t ≡ true → Format f wf okf) → (t ≡ false → Format g wg okg)
      → Format (λ s. when t then f s else g s) (λ x. when t then wf x else wg x) (λ x. (t ≡ true → okf x) × (t ≡ false → okg x))
  chosen F G = go t refl
    where
      go : (b : Bool) → t ≡ b → Format (λ s. when t then f s else g s) (λ x. when t then wf x else wg x) (λ x. (t ≡ true → okf x) × (t ≡ false → okg x))
      go true e = restated (F e) (λ s. when t then f s else g s) (λ x. when t then wf x else wg x) (λ x. (t ≡ true → okf x) × (t ≡ false → okg x))
          (λ s. when_true t (f s) (g s) e) (λ x h. when_true t (wf x) (wg x) e) (λ x h. ((λ _. h), (λ n. not-both e n))) (λ x h. h.0 e)
      go false e = restated (G e) (λ s. when t then f s else g s) (λ x. when t then wf x else wg x) (λ x. (t ≡ true → okf x) × (t ≡ false → okg x))
          (λ s. when_false t (f s) (g s) e) (λ x h. when_false t (wf x) (wg x) e) (λ x h. ((λ n. not-both n e), (λ _. h))) (λ x h. h.1 e)

-- nothing is read where the test fails
refuses : {E X : Type 0} (r : Refusal) (w : X → List E) → Format {E = E} {X = X} (λ s. refused r) w (λ x. ⊥)
refuses r w = record { reads = λ x rest e. absurd e; came = λ s x n e. never e }

pub tested : {E X : Type 0} (t : Bool) (r : Refusal) {f : List E → Got X} {wf : X → List E} {okf : X → Type 0} → (t ≡ true → Format f wf okf)
    → Format (λ s. when t then f s else refused r) wf (λ x. (t ≡ true) × okf x)
tested t r {f = f} {wf = wf} {okf = okf} F = go t refl
  where
    go : (b : Bool) → t ≡ b → Format (λ s. when t then f s else refused r) wf (λ x. (t ≡ true) × okf x)
    go true e = restated (F e) (λ s. when t then f s else refused r) wf (λ x. (t ≡ true) × okf x) (λ s. when_true t (f s) (refused r) e) (λ x h. refl) (λ x h. (e, h)) (λ x h. h.1)
    go false e = restated (refuses r wf) (λ s. when t then f s else refused r) wf (λ x. (t ≡ true) × okf x) (λ s. when_false t (f s) (refused r) e) (λ x h. refl) (λ x h. absurd h) (λ x h. not-both h.0 e)

-- ---- x is read, then z, of which x is a part
module _ {E X Z : Type 0} {f : List E → Got X} {wf : X → List E} {okf : X → Type 0} {g : X → List E → Got Z} {wg : X → Z → List E} {okg : X → Z → Type 0}
    (F : Format f wf okf) (G : (x : X) → okf x → Format (g x) (wg x) (okg x)) (part : Z → X) (kept : (x : X) (z : Z) → okf x → okg x z → part z ≡ x) where
  second : (s : List E) → and_then (f s) s g ≡ map_got (λ (p : X × Z). p.1) (pair_read f g s)
  second s = go (f s)
    where
      alone : (x : X) (n : ℕ) (b : Got Z) → after n b ≡ map_got (λ (p : X × Z). p.1) (after n (map_got (λ z. (x, z)) b))
      alone x n (got z m) = refl
      alone x n (refused r) = refl

      go : (a : Got X) → and_then a s g ≡ map_got (λ (p : X × Z). p.1) (and_then a s (λ x t. map_got (λ z. (x, z)) (g x t)))
      go (got x n) = alone x n (g x (drop n s))
      go (refused r) = refl

  whole : (p : X × Z) → pair_fine okf okg p → (part p.1, p.1) ≡ p
  whole p h = ap (λ (x : X). (x, p.1)) (kept p.0 p.1 h.0 h.1)

  pub followed : Format (λ s. and_then (f s) s g) (λ z. wf (part z) ++ wg (part z) z) (λ z. okf (part z) × okg (part z) z)
  followed = restated
      (renamed (in-turn F G) (λ p. p.1) (λ z. (part z, z)) (λ z. okf (part z) × okg (part z) z)
      (λ p h. subst (λ (x : X). okf x × okg x p.1) (sym (kept p.0 p.1 h.0 h.1)) h) (λ z h. h) (λ z h. refl) whole)
      (λ s. and_then (f s) s g) (λ z. wf (part z) ++ wg (part z) z) (λ z. okf (part z) × okg (part z) z) second (λ z h. refl) (λ z h. h) (λ z h. h)
