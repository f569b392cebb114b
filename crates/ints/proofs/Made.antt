-- An array that `from_fn` makes, where each call leaves the closure as it was and gives v of its number.
-- Assumes nothing.
use mathlib.Core.Path.{◌≡◌, refl, ap, sym, subst, ◌∙◌}
use mathlib.Core.Logic.{⊎_elim}
use mathlib.Core.List.{List, map}
use Prim.Native.Nat.{ℕ, zero, suc, ◌+◌, ◌≤◌, ◌<◌}
use native.Mathlib.Nat.{eq-or-lt_of_le}
use native.Mathlib.Omega.{arith}
use lib.ListN.{get_or}
use denote.Param.Members.{Mut}
use Rattle.std.specs.Fn.{Called}
use Rattle.std.specs.Array.{IsFromFnResultFrom, IsFromFnResult}
use Rattle.std.specs.List.{range_with_len}
use Rattle.std.proofs.lemmas.List.FromFn.{fill_by_all}

module _ {F B : Type 0} (g : Mut F (ℕ × Unit {0}) B) (v : ℕ → B) (f : F) (step : (i : ℕ) (y : B) (q : F) → Called g f (i, tt) y q → (y ≡ v i) × (q ≡ f)) where
  made-at : (ys : List B) (n i : ℕ) (p : F) → p ≡ f → IsFromFnResultFrom g p ys i n → (k : ℕ) → i ≤ k → k < i + n → (d : B) → get_or ys k d ≡ v k
  made-at ys zero i p e m k a b d = absurd (omega arith)
  made-at ys (suc n) i p e (q, y, at, called, m) k a b d =
      let s = step i y q (subst (λ (p : F). Called g p (i, tt) y q) e called) in
      ⊎_elim
      (λ here. ap (λ j. get_or ys j d) (sym here) ∙ at.1 d ∙ s.0 ∙ ap v here)
      (λ later. made-at ys n (i + 1) q s.1 m k (omega arith) (omega arith) d)
      (eq-or-lt_of_le a)

  pub made-by : (d : B) (n : ℕ) {ys : List B} → IsFromFnResult g f ys n → ys ≡ map v (range_with_len 0 n)
  made-by d n {ys} r = fill_by_all v ys n d r.long (λ k l. made-at ys n 0 f refl r.each k (omega arith) (omega arith) d)
