-- A rule at every number below a bound, proved by one test that antt computes.
-- Assumes nothing.
use mathlib.Core.Path.{◌≡◌, refl, subst, sym}
use mathlib.Core.Bool.{Bool, true, false, ◌&&◌, ◌||◌, true≢false}
use Prim.Native.Nat.{ℕ, zero, suc, ◌<◌}
use native.Mathlib.Omega.{arith}
use borrow.Author.Tests.{ltb-true, ltb-false}
use lib.Dec.{T, ltb}

pub both_left : (a b : Bool) → T (a && b) → T a
both_left true b t = tt
both_left false b t = t

pub both_right : (a b : Bool) → T (a && b) → T b
both_right true b t = t
both_right false b t = absurd t

-- neither of two tests
pub neither : (s t : Bool) → (s || t) ≡ false → (s ≡ false) × (t ≡ false)
neither true t e = absurd (true≢false e)
neither false t e = (refl, e)

-- the test f passes at each number below n
abbrev pub every : (ℕ → Bool) → ℕ → Bool
every f zero = true
every f (suc n) = every f n && f n

pub at : (f : ℕ → Bool) (n : ℕ) → T (every f n) → (k : ℕ) → k < n → T (f k)
at f zero t k h = absurd (omega arith)
at f (suc n) t k h = last (ltb k n) refl (at f n (both_left (every f n) (f n) t) k)
  where
    last : (b : Bool) → ltb k n ≡ b → (k < n → T (f k)) → T (f k)
    last true e g = g (ltb-true k n e)
    last false e g =
        let i : k ≡ n = omega (arith, ltb-false k n e) in
        subst (λ (m : ℕ). T (f m)) (sym i) (both_right (every f n) (f n) t)
