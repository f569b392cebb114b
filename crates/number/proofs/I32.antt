-- Signed numbers at 32 bits, as `sent_of` and `received_of` compute them. A signed local holds bits, so each step is read back by `to_z w (of_z w z)`.
-- Assumes nothing.
use mathlib.Core.Path.{◌≡◌, refl, sym, ap, ◌∙◌, subst}
use mathlib.Core.Bool.{true, false}
use Prim.Native.Nat.{ℕ, zero, suc, ◌^◌, ◌<◌}
use native.Mathlib.Omega.{arith}
use borrow.Author.Tests.{ltb-true}
use lib.Dec.{lit<}
use lib.IntN.{ℤ, pos, negsuc, ◌+ℤ◌, ◌-ℤ◌, neg_ℤ, pred_ℤ, +ℤ_one, +ℤ_idl, -ℤ_one}
use lib.Signed.{lt_z}
use mir.Syntax.{w32}
use mir.Val.{SFits, of_z, to_z}
use mir.Facts.{to_z-of_z, to_z_pos}

-- a value that fits is read back
abbrev pub back : ℤ → ℤ
back z = to_z w32 (of_z w32 z)

-- - (v + 1), of a negative v
unfoldable pub turned : ℤ → ℤ
turned v = pos 0 -ℤ back (back v +ℤ pos 1)

next-neg : (n : ℕ) → pos 0 -ℤ (negsuc n +ℤ pos 1) ≡ pos n
next-neg zero = refl
next-neg (suc n) = ap (λ (z : ℤ). pos 0 -ℤ z) (+ℤ_one (negsuc (suc n))) ∙ +ℤ_idl (pos (suc n))

next_fits : (n : ℕ) → n < 2 ^ 31 → SFits w32 (negsuc n +ℤ pos 1)
next_fits zero h = record { sfits = lit< tt }
next_fits (suc n) h = subst (SFits w32) (sym (+ℤ_one (negsuc (suc n)))) (record { sfits = omega arith })

pub record Turned (v : ℤ) : Type 0 where
  pub n : ℕ
  pub is : v ≡ negsuc n
  pub small : n < 2 ^ 31
  pub adds : SFits w32 (back v +ℤ pos 1)
  pub subs : SFits w32 (turned v)
  pub value : back (turned v) ≡ pos n

pub turn : (v : ℤ) → SFits w32 v → lt_z (back v) (pos 0) ≡ true → Turned v
unfolding turned
turn (pos n) f e = absurd (omega (arith, ltb-true n 0 (ap (λ (z : ℤ). lt_z z (pos 0)) (sym (to_z-of_z f)) ∙ e)))
turn (negsuc n) f e =
    let b : back (negsuc n) ≡ negsuc n = to_z-of_z f in
    let a : SFits w32 (back (negsuc n) +ℤ pos 1) = subst (λ (z : ℤ). SFits w32 (z +ℤ pos 1)) (sym b) (next_fits n f.sfits) in
    let t : turned (negsuc n) ≡ pos n = ap (λ (z : ℤ). pos 0 -ℤ z) (to_z-of_z a ∙ ap (λ (z : ℤ). z +ℤ pos 1) b) ∙ next-neg n in
    let s : SFits w32 (turned (negsuc n)) = subst (SFits w32) (sym t) (record { sfits = f.sfits }) in
    record { n = n; is = refl; small = f.sfits; adds = a; subs = s; value = to_z-of_z s ∙ t }

-- a value that is not negative
pub whole : (v : ℤ) → SFits w32 v → lt_z (back v) (pos 0) ≡ false → (n : ℕ) × (v ≡ pos n) × (n < 2 ^ 31) × (back v ≡ pos n)
whole (pos n) f e = (n, refl, f.sfits, to_z-of_z f)
whole (negsuc n) f e =
    let x : true ≡ false = ap (λ (z : ℤ). lt_z z (pos 0)) (sym (to_z-of_z f)) ∙ e in
    absurd (let z : ◌≡◌ {A = ℕ} 0 1 = cc in omega arith)

-- what `received_of` computes of h, half of n
minus : (h : ℕ) → h < 2 ^ 31 → pos 0 -ℤ to_z w32 h ≡ neg_ℤ (pos h)
minus h k = ap (λ (z : ℤ). pos 0 -ℤ z) (to_z_pos w32 k) ∙ +ℤ_idl (neg_ℤ (pos h))

neg-fits : (h : ℕ) → h < 2 ^ 31 → SFits w32 (neg_ℤ (pos h))
neg-fits zero k = record { sfits = lit< tt }
neg-fits (suc h) k = record { sfits = omega arith }

pred-neg : (h : ℕ) → pred_ℤ (neg_ℤ (pos h)) ≡ negsuc h
pred-neg zero = refl
pred-neg (suc h) = refl

pub half-fits : (h : ℕ) → h < 2 ^ 31 → SFits w32 (pos 0 -ℤ to_z w32 h)
half-fits h k = subst (SFits w32) (sym (minus h k)) (neg-fits h k)

pub under : (h : ℕ) → h < 2 ^ 31 → (SFits w32 (back (pos 0 -ℤ to_z w32 h) -ℤ pos 1)) × (back (back (pos 0 -ℤ to_z w32 h) -ℤ pos 1) ≡ negsuc h)
under h k =
    let e : back (pos 0 -ℤ to_z w32 h) -ℤ pos 1 ≡ negsuc h = ap (λ (z : ℤ). z -ℤ pos 1) (to_z-of_z (half-fits h k) ∙ minus h k) ∙ -ℤ_one (neg_ℤ (pos h)) ∙ pred-neg h in
    let f : SFits w32 (back (pos 0 -ℤ to_z w32 h) -ℤ pos 1) = subst (SFits w32) (sym e) (record { sfits = k }) in
    (f, to_z-of_z f ∙ e)
