-- The sums of the transform without saturation: their size, with the DC, and in two parts.
-- Assumes nothing.
use mathlib.Core.Path.{◌≡◌, refl, sym, ap, subst, ◌∙◌}
use mathlib.Core.List.{List, [], ◌∷◌}
use Prim.Native.Nat.{ℕ, zero, suc, ◌*◌, ◌≤◌, ◌<◌}
use native.Mathlib.Nat.{mul-add}
use native.Mathlib.Omega.{arith}
use lib.Dec.{lit≤}
use lib.IntN.{ℤ, pos, nat_abs, ◌+ℤ◌, ◌-ℤ◌, ◌*ℤ◌}
use lib.ListN.{get_or}
use mir.Syntax.{w32}
use mir.Val.{SFits}
use mir.Facts.{to_z-of_z}
use Rattle.ints.proofs.Fits.{read, Within, within-fits, within-floor}
use Rattle.ints.proofs.Laws.{sat-same}
use Rattle.std.proofs.lemmas.Int.{ints}
use Rattle.ints.proofs.Linear.{up, down, times-z, mag-z, abs-z}
use Rattle.transform.specs.Residual.{sum_of, weighed, rounded}
use Rattle.transform.proofs.Laws.{below-4}
use Rattle.transform.specs.InnerPasses.{Small, sums_of}

-- ---- magnitudes
pub abs-times : (k : ℕ) (x : ℤ) → nat_abs (pos k *ℤ x) ≡ k * nat_abs x
abs-times k x = omega (arith, times-z k x, abs-z x, abs-z (pos k *ℤ x), ap (λ n. k * n) (abs-z x), mul-add k (up x) (down x))

-- a sum is no larger than 50 times the largest of the four
pub sum-abs : (k m : ℕ) {a b c d : ℤ} → Small m a b c d → nat_abs (sum_of k a b c d) ≤ 50 * m
unfolding sum_of
sum-abs zero m h = omega (arith, ints)
sum-abs (suc zero) m h = omega (arith, ints)
sum-abs (suc (suc zero)) m h = omega (arith, ints)
sum-abs (suc (suc (suc k))) m h = omega (arith, ints)

-- where 50 times the largest fits, a sum fits, and nothing saturates
sum_fits : (k m : ℕ) {a b c d : ℤ} → 50 * m ≤ 2147483647 → Small m a b c d → SFits w32 (sum_of k a b c d)
sum_fits k m {a} {b} {c} {d} h p = record { sfits = omega (arith, ints, sum-abs k m p, mag-z (sum_of k a b c d)) }

pub weighed-exact : (k m : ℕ) {a b c d : ℤ} → 50 * m ≤ 2147483647 → Small m a b c d → weighed k a b c d ≡ sum_of k a b c d
unfolding weighed
weighed-exact k m {a} {b} {c} {d} h p = sat-same (sum_fits k m h p)

-- sum k of the four
pub sums_at : (a b c d : ℤ) (k : ℕ) → k < 4 → get_or (sums_of a b c d) k (pos 0) ≡ sum_of k a b c d
unfolding sums_of
sums_at a b c d k h = below-4 (λ k. get_or (sums_of a b c d) k (pos 0) ≡ sum_of k a b c d) refl refl refl refl k h

-- ---- with the DC, and rounded
pub abs-fits : (n : ℕ) (z : ℤ) → nat_abs z ≤ n → n ≤ 2147483647 → SFits w32 z
abs-fits n z h k = record { sfits = omega (arith, ints, mag-z z) }

-- sum k of four numbers that were read
pub sum-read : (k : ℕ) {a b c d : ℤ} {l : List ℤ} → k < 4 → Small 40000000 a b c d → l ≡ sums_of (read w32 a) (read w32 b) (read w32 c) (read w32 d) → read w32 (get_or l k (pos 0)) ≡ sum_of k a b c d
sum-read k {a} {b} {c} {d} h s e =
    ap (λ l. read w32 (get_or l k (pos 0))) (e ∙ (λ i. sums_of (same a s.first i) (same b s.second i) (same c s.third i) (same d s.fourth i)))
    ∙ ap (read w32) (sums_at a b c d k h)
    ∙ to_z-of_z (sum_fits k 40000000 (lit≤ tt) s)
  where
    same : (z : ℤ) → nat_abs z ≤ 40000000 → read w32 z ≡ z
    same z h = to_z-of_z (abs-fits 40000000 z h (lit≤ tt))

module _ (t dc : ℤ) (h : nat_abs t ≤ 2000000000) (k : nat_abs dc ≤ 800000) where
  pub with-dc : SFits w32 (t +ℤ pos 169 *ℤ dc)
  with-dc = abs-fits 2135200000 _ (omega (arith, ints)) (lit≤ tt)

  pub with-rounding : SFits w32 (t +ℤ pos 169 *ℤ dc +ℤ pos 524288)
  with-rounding = abs-fits 2135724288 _ (omega (arith, ints)) (lit≤ tt)

  pub rounded-within : Within 4096 (rounded t dc)
  unfolding rounded
  rounded-within = within-floor 4096 1048576 _ (within-fits w32 _ _ with-rounding tt) tt

-- ---- in two parts: 13 (a ± c), and 17 b + 7 d or 7 b - 17 d
-- what is made of the parts of sum k fits 32 bits, and read back it is that sum
abbrev pub parts : ℕ → ℤ → ℤ → ℤ → ℤ → ℤ
parts zero a b c d = pos 13 *ℤ (a +ℤ c) +ℤ (pos 17 *ℤ b +ℤ pos 7 *ℤ d)
parts (suc zero) a b c d = pos 13 *ℤ (a -ℤ c) +ℤ (pos 7 *ℤ b -ℤ pos 17 *ℤ d)
parts (suc (suc zero)) a b c d = pos 13 *ℤ (a -ℤ c) -ℤ (pos 7 *ℤ b -ℤ pos 17 *ℤ d)
parts (suc (suc (suc k))) a b c d = pos 13 *ℤ (a +ℤ c) -ℤ (pos 17 *ℤ b +ℤ pos 7 *ℤ d)

parts-sum : (k : ℕ) (a b c d : ℤ) → parts k a b c d ≡ sum_of k a b c d
unfolding sum_of
parts-sum zero a b c d = omega (arith, ints)
parts-sum (suc zero) a b c d = omega (arith, ints)
parts-sum (suc (suc zero)) a b c d = omega (arith, ints)
parts-sum (suc (suc (suc k))) a b c d = omega (arith, ints)

pub parts-fit : (k : ℕ) {a b c d z : ℤ} → Small 40000000 a b c d → z ≡ parts k a b c d → SFits w32 z
parts-fit k {a} {b} {c} {d} small e = subst (SFits w32) (sym (e ∙ parts-sum k a b c d)) (sum_fits k 40000000 (lit≤ tt) small)

parts-read : (k : ℕ) (a b c d : ℤ) {z : ℤ} → SFits w32 z → z ≡ parts k a b c d → read w32 z ≡ sum_of k a b c d
parts-read k a b c d f e = to_z-of_z f ∙ e ∙ parts-sum k a b c d

pub four-sums : (a b c d : ℤ) {w x y z : ℤ} → SFits w32 w → SFits w32 x → SFits w32 y → SFits w32 z
    → w ≡ parts 0 a b c d → x ≡ parts 1 a b c d → y ≡ parts 2 a b c d → z ≡ parts 3 a b c d
    → read w32 w ∷ read w32 x ∷ read w32 y ∷ read w32 z ∷ [] ≡ sums_of a b c d
unfolding sums_of
four-sums a b c d f g h k p q r s = λ i. parts-read 0 a b c d f p i ∷ parts-read 1 a b c d g q i ∷ parts-read 2 a b c d h r i ∷ parts-read 3 a b c d k s i ∷ []
