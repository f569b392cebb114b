-- The quantiser afterwards: in range, its bits determined, and what its reader answers.
-- Assumes nothing.
use mathlib.Core.Path.{◌≡◌, refl, sym, ap, ◌∙◌, subst}
use mathlib.Core.Bool.{Bool, true, false, ◌&&◌, not, false≢true}
use mathlib.Core.List.{List, []}
use Prim.Native.Nat.{ℕ, ◌+◌, ◌≤◌}
use native.Mathlib.Nat.{add-zero}
use native.Mathlib.Omega.{arith}
use borrow.Author.Tests.{ltb-true, le-leb, le-ltb}
use lib.Dec.{T, eqb}
use lib.IntN.{ℤ, pos, negsuc, nat_abs, ◌+ℤ◌, ◌-ℤ◌}
use lib.Signed.{non_neg, lt_z, le_z}
use mir.Syntax.{w32}
use mir.Val.{Fits}
use Rattle.ints.specs.Z.{when◌then◌else◌}
use Rattle.ints.proofs.Fits.{if_yes, if_no}
use Rattle.ints.proofs.Laws.{add-diff}
use Rattle.refusal.specs.Got.{Got, got, refused, after, and_then}
use Rattle.refusal.specs.declared.Refusal.{Refusal}
use Rattle.refusal.specs.declared.Refusal.TheVariants.{InvalidQuantiser}
use Rattle.refusal.proofs.Formats.{got-value, got-count, never}
use Rattle.refusal.proofs.Local.{apart, Took, took-none, took-format}
use Rattle.bits.specs.Signed.{signed_code, signed_bits}
use Rattle.refusal.specs.Answered.{answered}
use Rattle.std.specs.Prelude.{Ok, Err}
use Rattle.refusal.proofs.Answered.{Answered, answered-got, answered-refused}
use Rattle.bits.proofs.SignedCode.{signed-format}
use Rattle.reading.specs.Read.{quantiser_in, read_quantiser}
use Rattle.reading.specs.Bits.{quantiser_bits}

-- a quantiser that was taken is the exact value, 0 to 31, and takes no bits of its own
record Held (z : ℤ) (q n : ℕ) : Type 0 where
  pub is : z ≡ pos q
  pub most : q ≤ 31
  pub none : 0 ≡ n

second : (a b : Bool) → (a && b) ≡ true → b ≡ true
second true b e = e
second false b e = absurd (false≢true e)

held : (z : ℤ) (q n : ℕ) → quantiser_in z ≡ got q n → Held z q n
unfolding quantiser_in when◌then◌else◌
held (pos a) q n e = go (not (lt_z (pos a) (pos 0)) && lt_z (pos a) (pos 32)) refl e
  where
    go : (t : Bool) → (not (lt_z (pos a) (pos 0)) && lt_z (pos a) (pos 32)) ≡ t → (when t then got a 0 else refused (InvalidQuantiser (pos a))) ≡ got q n → Held (pos a) q n
    go true h e = record { is = ap pos (got-value e); most = omega (arith, got-value e, ltb-true a 32 (second (not (lt_z (pos a) (pos 0))) (lt_z (pos a) (pos 32)) h)); none = got-count e }
    go false h e = never e
held (negsuc a) q n e = never e

module _ (delta : Bool) (q pattern after : ℕ) (s : List Bool) (n : ℕ) where
  pub quantiser-most : q ≤ 31 → read_quantiser delta q pattern s ≡ got after n → after ≤ 31
  unfolding read_quantiser when◌then◌else◌
  quantiser-most h e = go (not (eqb pattern 0) && delta) e
    where
      go : (t : Bool) → (when t then and_then (signed_code s) s (λ d rest. quantiser_in (pos q +ℤ d)) else got q 0) ≡ got after n → after ≤ 31
      go true e = let a = apart (signed_code s) (λ d rest. quantiser_in (pos q +ℤ d)) s after n e in (held (pos q +ℤ a.x) after a.k a.second).most
      go false e = omega (arith, got-value e)

  pub quantiser-took : read_quantiser delta q pattern s ≡ got after n → Took (quantiser_bits delta q pattern after) s n
  unfolding read_quantiser quantiser_bits when◌then◌else◌
  quantiser-took e = go (not (eqb pattern 0) && delta) e
    where
      go : (t : Bool) → (when t then and_then (signed_code s) s (λ d rest. quantiser_in (pos q +ℤ d)) else got q 0) ≡ got after n → Took (when t then signed_bits (pos after -ℤ pos q) else []) s n
      go true e =
          let a = apart (signed_code s) (λ d rest. quantiser_in (pos q +ℤ d)) s after n e in
          let h = held (pos q +ℤ a.x) after a.k a.second in
          let m : a.m ≡ n = omega (arith, a.sum, h.none) in
          subst (λ (z : ℤ). Took (signed_bits z) s n) (add-diff (pos q) a.x (pos after) h.is) (subst (Took (signed_bits a.x) s) m (took-format signed-format s a.x a.m a.first))
      go false e = subst (Took [] s) (got-count e) (took-none s)

-- ---- what `read_quantiser` answers
at_least : (z : ℤ) → not (lt_z z (pos 0)) ≡ le_z (pos 0) z
at_least (pos a) = ap not (le-ltb a 0 (omega arith)) ∙ sym (le-leb 0 a (omega arith))
at_least (negsuc a) = refl

abbrev in_range : ℤ → Bool
in_range z = le_z (pos 0) z && lt_z z (pos 32)

tested : (z : ℤ) (t : Bool) → in_range z ≡ t → (not (lt_z z (pos 0)) && lt_z z (pos 32)) ≡ t
tested z t e = ap (λ (b : Bool). b && lt_z z (pos 32)) (at_least z) ∙ e

-- what is in range may be cast
pub in-range-cast : (z : ℤ) → in_range z ≡ true → T (non_neg z) × Fits w32 (nat_abs z)
in-range-cast (pos a) e = (tt, record { fits = omega (arith, ltb-true a 32 (second (le_z (pos 0) (pos a)) (lt_z (pos a) (pos 32)) e)) })
in-range-cast (negsuc a) e = absurd (false≢true e)

module _ (delta : Bool) (q pattern at : ℕ) (s : List Bool) where
  pub no-delta : (not (eqb pattern 0) && delta) ≡ false → Ok (q, at) ≡ answered at (read_quantiser delta q pattern s)
  unfolding read_quantiser
  no-delta t = sym (ap (answered at) (if_no _ _ _ t) ∙ ap (λ (n : ℕ). Ok (q, n)) (add-zero at))

  module _ (t : (not (eqb pattern 0) && delta) ≡ true) where
    pub delta-refused : (r : Refusal) → Err r ≡ answered at (signed_code s) → Err r ≡ answered at (read_quantiser delta q pattern s)
    unfolding read_quantiser
    delta-refused r e = sym (ap (answered at) (if_yes _ _ _ t ∙ ap (λ (g : Got ℤ). and_then g s (λ d rest. quantiser_in (pos q +ℤ d))) (answered-refused at (signed_code s) r e)))

    -- z is the exact value
    module _ (d z : ℤ) (next : ℕ) (e : Ok (d, next) ≡ answered at (signed_code s)) (i : z ≡ pos q +ℤ d) where
      with-delta : (a : Answered at (signed_code s) d next) → read_quantiser delta q pattern s ≡ after a.taken (quantiser_in z)
      unfolding read_quantiser
      with-delta a = if_yes _ _ _ t ∙ ap (λ (g : Got ℤ). and_then g s (λ d rest. quantiser_in (pos q +ℤ d))) a.is ∙ ap (λ (y : ℤ). after a.taken (quantiser_in y)) (sym i)

      pub delta-in : in_range z ≡ true → Ok (nat_abs z, next) ≡ answered at (read_quantiser delta q pattern s)
      unfolding quantiser_in
      delta-in h =
          let a = answered-got at (signed_code s) d next e in
          ap (λ (n : ℕ). Ok (nat_abs z, n)) (a.moved ∙ ap (λ (n : ℕ). at + n) (sym (add-zero a.taken))) ∙ sym (ap (answered at) (with-delta a ∙ ap (after a.taken) (if_yes _ _ _ (tested z true h))))

      pub delta-out : in_range z ≡ false → Err (InvalidQuantiser z) ≡ answered at (read_quantiser delta q pattern s)
      unfolding quantiser_in
      delta-out h = let a = answered-got at (signed_code s) d next e in sym (ap (answered at) (with-delta a ∙ ap (after a.taken) (if_no _ _ _ (tested z false h))))
