-- A format of which only the values that pass a test are kept is a format.
-- Assumes nothing.
use mathlib.Core.Path.{◌≡◌, refl, subst}
use mathlib.Core.Bool.{Bool, true, false, cond}
use mathlib.Core.List.{List}
use Prim.Native.Nat.{ℕ}
use Rattle.refusal.specs.Got.{Got, got, refused}
use Rattle.refusal.specs.Format.{Came, Format}
use Rattle.refusal.specs.declared.Refusal.{Refusal}
use Rattle.refusal.proofs.Formats.{got-value, got-count, never}
use Rattle.levels.specs.Pattern.{keep}

module _ {E X : Type 0} {f : List E → Got X} {wf : X → List E} {okf : X → Type 0} (F : Format f wf okf) (test : X → Bool) (why : X → Refusal) where
  kept-came : (s : List E) (x : X) (n : ℕ) → keep test why (f s) ≡ got x n → Came wf (λ x. okf x × (test x ≡ true)) s x n
  kept-came s x n e = go (f s) refl e
    where
      passed : (y : X) (m : ℕ) → f s ≡ got y m → (t : Bool) → test y ≡ t → cond t (got y m) (refused (why y)) ≡ got x n → Came wf (λ x. okf x × (test x ≡ true)) s x n
      passed y m h false p e = never e
      passed y m h true p e =
          let c = F.came s y m h in
          subst (λ (z : X). Came wf (λ x. okf x × (test x ≡ true)) s z n) (got-value e)
          (subst (λ (k : ℕ). Came wf (λ x. okf x × (test x ≡ true)) s y k) (got-count e)
          (record { in_range = (c.in_range, p); starts = c.starts; taken = c.taken }))

      go : (a : Got X) → f s ≡ a → keep test why a ≡ got x n → Came wf (λ x. okf x × (test x ≡ true)) s x n
      go (refused r) h e = never e
      go (got y m) h e = passed y m h (test y) refl e

  pub kept : Format (λ s. keep test why (f s)) wf (λ x. okf x × (test x ≡ true))
  kept = record { reads = λ x rest h. rw (F.reads x rest h.0, h.1); came = kept-came }
