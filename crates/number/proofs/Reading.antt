-- Reading a number as `read_number` does, from the lowest group on: what its loop holds, and each of its answers.
-- Assumes nothing.
use mathlib.Core.Path.{◌≡◌, refl, sym, ap, ◌∙◌}
use mathlib.Core.Bool.{Bool, true, false, cond, ◌&&◌}
use mathlib.Core.List.{List, ◌∷◌}
use mathlib.Core.Logic.{⊎_elim}
use Prim.Native.Nat.{ℕ, suc, ◌+◌, ◌-◌, ◌*◌, ◌^◌, ◌<◌, ◌≤◌}
use native.Mathlib.Nat.{mul-le-mul, mul-le-mul_right, le_refl, le_of_lt, pow-succ', pow-le-pow_right}
use native.Mathlib.Numerals.{add-one}
use native.Mathlib.Omega.{arith}
use borrow.Author.Tests.{lt-ltb, le-ltb, ne_eqb}
use lib.Dec.{ltb, eqb, lit<}
use lib.ListN.{length, get_or, drop, drop_of_length-le}
use lib.Seq.{drop-cons}
use Rattle.refusal.specs.Got.{Got, got, refused}
use Rattle.refusal.specs.declared.Refusal.TheVariants.{NumberForm}
use Rattle.number.specs.Number.{low_then, read_number}
use Rattle.refusal.specs.Answered.{answered}
use Rattle.refusal.specs.declared.Refusal.{Refusal}
use Rattle.std.specs.Prelude.{Result, Ok, Err}
use Rattle.number.proofs.Numbers.{number-format, refused-form, lt-or-le, zero-or-more, low-then, low-zero, low-large, low-refused, read-end, read-last, read_more}

-- the answer of a reader that started at `at` and stands at p: the groups between have the value a, and the number behind them counts `unit`
unfoldable pub joined : ℕ → ℕ → ℕ → ℕ → Got ℕ → Result (ℕ × ℕ) Refusal
joined at p a unit (got v n) =
    cond (ltb (a + v * unit) (2 ^ 32)) (cond (ltb at p && eqb v 0) (Err NumberForm) (Ok (a + v * unit, p + n))) (Err NumberForm)
joined at p a unit (refused r) = Err NumberForm

and-false : (t : Bool) → (t && false) ≡ false
and-false true = refl
and-false false = refl

module _ (at p a unit : ℕ) where
  pub large : (v n : ℕ) → 2 ^ 32 ≤ a + v * unit → joined at p a unit (got v n) ≡ Err NumberForm
  unfolding joined
  large v n h = rw (le-ltb (a + v * unit) (2 ^ 32) h)

  pub not-shortest : (v n : ℕ) → a + v * unit < 2 ^ 32 → (ltb at p && eqb v 0) ≡ true → joined at p a unit (got v n) ≡ Err NumberForm
  unfolding joined
  not-shortest v n h e = rw (lt-ltb (a + v * unit) (2 ^ 32) h, e)

  pub fine : (v n : ℕ) → a + v * unit < 2 ^ 32 → (ltb at p && eqb v 0) ≡ false → joined at p a unit (got v n) ≡ Ok (a + v * unit, p + n)
  unfolding joined
  fine v n h e = rw (lt-ltb (a + v * unit) (2 ^ 32) h, e)

  not-zero : (v : ℕ) → 0 < v → (ltb at p && eqb v 0) ≡ false
  not-zero v z = rw (ne_eqb v 0 (λ e. omega arith)) (and-false (ltb at p))

  -- a top group 0
  zero-top : (n : ℕ) → at < p → joined at p a unit (got 0 n) ≡ Err NumberForm
  unfolding joined
  zero-top n h = ⊎_elim (λ l. not-shortest 0 n l (rw (lt-ltb at p h))) (λ l. large 0 n l) (lt-or-le (a + 0 * unit) (2 ^ 32))

pub start : (at : ℕ) (s : List ℕ) → joined at at 0 1 (read_number s) ≡ answered at (read_number s)
unfolding joined
start at s = go (read_number s) refl
  where
    go : (x : Got ℕ) → read_number s ≡ x → joined at at 0 1 x ≡ answered at x
    go (got v n) e =
        let h = (number-format.came s v n e).in_range in
        let is : 0 + v * 1 ≡ v = omega arith in
        fine at at 0 1 v n (omega arith) (rw (le-ltb at at (le_refl at))) ∙ ap (λ (w : ℕ). Ok (w, at + n)) is
    go (refused r) e = ap Err (sym (refused-form s r e))

-- one group more
module _ (at p a unit low : ℕ) (below : at ≤ p) (some : 0 < unit) where
  step : (x : Got ℕ) → joined at p a unit (low_then low x) ≡ joined at (p + 1) (a + low * unit) (128 * unit) x
  unfolding joined
  step (refused r) = rw (low-refused low r)
  step (got v n) = ⊎_elim nothing (λ z. ⊎_elim (within z) (beyond z) (lt-or-le (low + 128 * v) (2 ^ 32))) (zero-or-more v)
    where
      here : Result (ℕ × ℕ) Refusal
      here = joined at p a unit (low_then low (got v n))

      there : Result (ℕ × ℕ) Refusal
      there = joined at (p + 1) (a + low * unit) (128 * unit) (got v n)

      same : a + (low + 128 * v) * unit ≡ a + low * unit + v * (128 * unit)
      same = omega arith

      next : p + suc n ≡ p + 1 + n
      next = omega arith

      nothing : v ≡ 0 → here ≡ there
      nothing z = rw (z, low-zero low n) (sym (zero-top at (p + 1) (a + low * unit) (128 * unit) n (omega arith)))

      beyond : 0 < v → 2 ^ 32 ≤ low + 128 * v → here ≡ there
      beyond z l = rw (low-large low v n z l) (sym (large at (p + 1) (a + low * unit) (128 * unit) v n (omega (arith, mul-le-mul l some))))

      in_range : 0 < v → a + (low + 128 * v) * unit < 2 ^ 32 → joined at p a unit (got (low + 128 * v) (suc n)) ≡ there
      in_range z k =
          fine at p a unit (low + 128 * v) (suc n) k (not-zero at p a unit (low + 128 * v) (omega arith))
          ∙ ap (λ (w : ℕ). Ok (w, p + suc n)) same ∙ ap (λ (w : ℕ). Ok (a + low * unit + v * (128 * unit), w)) next
          ∙ sym (fine at (p + 1) (a + low * unit) (128 * unit) v n (omega arith) (not-zero at (p + 1) a unit v z))

      too_large : 2 ^ 32 ≤ a + (low + 128 * v) * unit → joined at p a unit (got (low + 128 * v) (suc n)) ≡ there
      too_large k = large at p a unit (low + 128 * v) (suc n) k ∙ sym (large at (p + 1) (a + low * unit) (128 * unit) v n (omega arith))

      within : 0 < v → low + 128 * v < 2 ^ 32 → here ≡ there
      within z l = rw (low-then low v n z l) (⊎_elim (in_range z) too_large (lt-or-le (a + (low + 128 * v) * unit) (2 ^ 32)))

-- ---- the answer at the head of the loop, by the byte at p
module _ (s : List ℕ) (at p a unit : ℕ) where
  pub ends : length s ≤ p → joined at p a unit (read_number (drop p s)) ≡ Err NumberForm
  unfolding joined
  ends h = rw (drop_of_length-le s h, read-end)

  here : p < length s → drop p s ≡ get_or s p 0 ∷ drop (p + 1) s
  here h = rw (add-one, drop-cons s p 0 h)

  -- alone
  pub one-group : p < length s → get_or s p 0 < 128 → answered p (read_number (drop p s)) ≡ Ok (get_or s p 0, p + 1)
  one-group h l = rw (here h, read-last (get_or s p 0) (drop (p + 1) s) l)

  pub last-group : p < length s → get_or s p 0 < 128 → joined at p a unit (read_number (drop p s)) ≡ joined at p a unit (got (get_or s p 0) 1)
  last-group h l = rw (here h, read-last (get_or s p 0) (drop (p + 1) s) l)

  pub goes_on : p < length s → 128 ≤ get_or s p 0 → get_or s p 0 < 256 → at ≤ p → 0 < unit
      → joined at p a unit (read_number (drop p s)) ≡ joined at (p + 1) (a + (get_or s p 0 - 128) * unit) (128 * unit) (read_number (drop (p + 1) s))
  goes_on h l k below some = rw (here h, read_more (get_or s p 0) (drop (p + 1) s) l k) (step at p a unit (get_or s p 0 - 128) below some (read_number (drop (p + 1) s)))

  -- a sixth group
  pub sixth : p < length s → 128 ≤ get_or s p 0 → get_or s p 0 < 256 → at ≤ p → 2 ^ 28 ≤ unit → joined at p a unit (read_number (drop p s)) ≡ Err NumberForm
  unfolding joined
  sixth h l k below big = goes_on h l k below (omega arith) ∙ go (read_number (drop (p + 1) s))
    where
      go : (x : Got ℕ) → joined at (p + 1) (a + (get_or s p 0 - 128) * unit) (128 * unit) x ≡ Err NumberForm
      go (refused r) = refl
      go (got v n) = ⊎_elim
          (λ (z : v ≡ 0). rw z (zero-top at (p + 1) (a + (get_or s p 0 - 128) * unit) (128 * unit) n (omega arith)))
          (λ (z : 0 < v). large at (p + 1) (a + (get_or s p 0 - 128) * unit) (128 * unit) v n (omega (arith, mul-le-mul z big)))
          (zero-or-more v)

-- ---- group n
pub group-most : (n unit b : ℕ) → n ≤ 4 → unit ≡ 128 ^ n → b < 256 → (unit ≤ 2 ^ 28) × (b * unit ≤ 2 ^ 36)
group-most n unit b h e k = (rw e u, rw e (mul-le-mul (le_of_lt k) u))
  where
    u : 128 ^ n ≤ 2 ^ 28
    u = pow-le-pow_right (lit< tt) h

-- one that is not the fifth
pub group-room : (n unit : ℕ) → unit ≡ 128 ^ n → unit < 2 ^ 28 → (n < 4) × (128 * unit ≡ 128 ^ suc n)
group-room n unit e h =
    let e' : 128 * unit ≡ 128 ^ suc n = rw (pow-succ' 128 n, e) in
    (⊎_elim (λ l. l) (λ (l : 4 ≤ n). let m : 128 ^ 4 ≤ 128 ^ n = pow-le-pow_right (lit< tt) l in omega arith) (lt-or-le n 4), e')

pub next-value : (a unit b : ℕ) → a < unit → b < 128 → a + b * unit < 128 * unit
next-value a unit b h k =
    let l : b ≤ 127 = omega arith in
    omega (arith, mul-le-mul_right unit l)
