-- That a signed value fits its width. `Within n z`: z lies in -n to n - 1, so that `SFits w z` is `Within (2 ^ hbits w) z`.
-- A lemma for each form of a number says what its parts may be, and a search goes down the form to the parameters. In a proof:
--     search signed depth 20            the needs: a signed sum, product, quotient, shift, negation or cast fits
--     fits (search ranges depth 20)     a long sum whose parameters are bound by `let record { a = a; .. } = c.fits in`
--     search signed fits 20000 depth 30 where "its count of 1000 was spent"
-- A bound that neither a type nor a test gives goes in by `let h = .. in`, as `h : mag z < m`, `nat_abs z ≤ m`, `a < m` or `z ≡ x`. In a product the literal stands first: `6 * x`.
-- The library's `ints` was tried on the sums of transform/proofs/exact and on one of the chroma DC: `omega (arith, ints)` proves them too. It was not tried elsewhere.
-- Assumes nothing.
use mathlib.Core.Path.{◌≡◌, refl, sym, subst, ap, ◌∙◌}
use mathlib.Core.Bool.{Bool, true, false, cond, not}
use Prim.Native.Nat.{ℕ, zero, suc, ◌+◌, ◌*◌, ◌-◌, ◌/◌, ◌^◌, ◌≤◌, ◌<◌, min}
use native.Mathlib.Nat.{div-mul-le_self, mul-le-mul_left, mul-le-mul_right, div-lt_iff_lt-mul, div-le_of_le-mul, lt_of_lt_of_le, lt_of_le_of_lt, le_of_lt}
use native.Mathlib.Omega.{arith}
use borrow.Author.Tests.{ltb-true, ltb-false, leb-false}
use lib.Dec.{T, lit<, leb, ltb, leb→le, ltb→lt, lt→ltb, le→leb}
use lib.IntN.{ℤ, pos, negsuc, neg_ℤ, nat_abs, sub_ℕ, ◌+ℤ◌, ◌*ℤ◌}
use lib.Signed.{mag, lt_z, le_z, ◌<ℤ◌, ◌≤ℤ◌, lt_z_yes, lt_z_no, le_z_yes, non_neg, quot_z, shr_z}
use mir.Syntax.{Width, w8, w16, w32, w64}
use mir.Val.{SFits, Fits, bits, hbits, to_z, of_z}
use mir.Facts.{to_z-of_z, to_z_pos, sfits_to_z}
use Rattle.ints.specs.Z.{when◌then◌else◌, clamp_z, sat_z, min_z, max_z, median_z, floor_z, least_i32, most_i32}

-- the difference of two naturals by cases of its sign
pub sub-ind : (P : ℤ → Type 0) (a b : ℕ) → ((k : ℕ) → a + suc k ≡ b → P (negsuc k)) → ((k : ℕ) → b + k ≡ a → P (pos k)) → P (sub_ℕ a b)
sub-ind P a b f g = go (ltb a b) refl
  where
    go : (t : Bool) → ltb a b ≡ t → P (cond t (negsuc (b - suc a)) (pos (a - b)))
    go true e = f (b - suc a) (omega (arith, ltb-true a b e))
    go false e = g (a - b) (omega (arith, ltb-false a b e))

-- what the machine reads back from the bits of z
abbrev pub read : Width → ℤ → ℤ
read w z = to_z w (of_z w z)

pub record Within (n : ℕ) (z : ℤ) : Type 0 where
  pub within : mag z < n

-- ---- to and from a width
pub fits : {w : Width} {z : ℤ} → Within (2 ^ hbits w) z → SFits w z
fits h = record { sfits = h.within }

pub fits-within : (w : Width) (z : ℤ) → Within (2 ^ hbits w) z → SFits w z
fits-within w z h = fits h

pub within-fits : (w : Width) (n : ℕ) (z : ℤ) → SFits w z → T (leb (2 ^ hbits w) n) → Within n z
within-fits w n z h t = record { within = lt_of_lt_of_le h.sfits (leb→le (2 ^ hbits w) n t) }

-- at each width by itself, so that a search has nothing to guess
pub within-i8 : (n : ℕ) (z : ℤ) → SFits w8 z → T (leb 128 n) → Within n z
within-i8 n z h t = within-fits w8 n z h t

pub within-i16 : (n : ℕ) (z : ℤ) → SFits w16 z → T (leb 32768 n) → Within n z
within-i16 n z h t = within-fits w16 n z h t

pub within-i32 : (n : ℕ) (z : ℤ) → SFits w32 z → T (leb 2147483648 n) → Within n z
within-i32 n z h t = within-fits w32 n z h t

pub within-i64 : (n : ℕ) (z : ℤ) → SFits w64 z → T (leb 9223372036854775808 n) → Within n z
within-i64 n z h t = within-fits w64 n z h t

-- ---- by a bound in hand
pub within-mag : (m n : ℕ) (z : ℤ) → mag z < m → T (leb m n) → Within n z
within-mag m n z h t = record { within = lt_of_lt_of_le h (leb→le m n t) }

mag-abs : (z : ℤ) → mag z ≤ nat_abs z
mag-abs (pos a) = omega arith
mag-abs (negsuc a) = omega arith

abs_mag : (z : ℤ) → nat_abs z ≤ mag z + 1
abs_mag (pos a) = omega arith
abs_mag (negsuc a) = omega arith

pub within-abs : (m n : ℕ) (z : ℤ) → nat_abs z ≤ m → T (ltb m n) → Within n z
within-abs m n z h t = record { within = omega (arith, mag-abs z, ltb→lt m n t) }

-- by what a callee says of its result
pub within-is : (n : ℕ) (z x : ℤ) → z ≡ x → Within n x → Within n z
within-is n z x e h = subst (Within n) (sym e) h

-- ---- a literal, a value read back, a cast
pub within-lit : (n : ℕ) (z : ℤ) → T (ltb (mag z) n) → Within n z
within-lit n z t = record { within = ltb→lt (mag z) n t }

pub within-read : (w : Width) (n : ℕ) (z : ℤ) → Within (min n (2 ^ hbits w)) z → Within n (to_z w (of_z w z))
within-read w n z h = subst (Within n) (sym (to_z-of_z {w = w} {z = z} (record { sfits = omega (arith, h.within) }))) (record { within = omega (arith, h.within) })

-- from an unsigned number
pub within-cast : (w : Width) (n m a : ℕ) → a < m → T (leb m (min n (2 ^ hbits w))) → Within n (to_z w a)
within-cast w n m a h t = subst (Within n) (sym (to_z_pos w (omega (arith, leb→le m (min n (2 ^ hbits w)) t)))) (record { within = omega (arith, leb→le m (min n (2 ^ hbits w)) t) })

pub cast-pos : (w : Width) (m a : ℕ) → a < m → T (leb m (2 ^ hbits w)) → to_z w a ≡ pos a
cast-pos w m a h t = to_z_pos w (lt_of_lt_of_le h (leb→le m (2 ^ hbits w) t))

-- any bits, as of a local that a loop or two branches assign
pub within-bits : (w : Width) (n a : ℕ) → Fits w a → T (leb (2 ^ hbits w) n) → Within n (to_z w a)
within-bits w n a h t = within-fits w n (to_z w a) (sfits_to_z h) t

-- ---- sums and products
pub mag-add : (x y : ℤ) → mag (x +ℤ y) ≤ mag x + mag y + 1
mag-add (pos a) (pos b) = omega arith
mag-add (pos a) (negsuc b) = sub-ind (λ z. mag z ≤ a + b + 1) a (suc b) (λ k e. omega arith) (λ k e. omega arith)
mag-add (negsuc a) (pos b) = sub-ind (λ z. mag z ≤ a + b + 1) b (suc a) (λ k e. omega arith) (λ k e. omega arith)
mag-add (negsuc a) (negsuc b) = omega arith

pub within-add : (n : ℕ) (x y : ℤ) → Within (n / 2) x → Within (n / 2) y → Within n (x +ℤ y)
within-add n x y h k = record { within = omega (arith, mag-add x y, h.within, k.within) }

mag-neg : (x : ℤ) → mag (neg_ℤ x) ≤ mag x + 1
mag-neg (pos zero) = omega arith
mag-neg (pos (suc a)) = omega arith
mag-neg (negsuc a) = omega arith

pub within-neg : (n : ℕ) (x : ℤ) → Within (n - 1) x → Within n (neg_ℤ x)
within-neg n x h = record { within = omega (arith, mag-neg x, h.within) }

pub neg-pos : (k : ℕ) → mag (neg_ℤ (pos k)) ≤ k - 1
neg-pos zero = omega arith
neg-pos (suc k) = omega arith

mag-mul : (x y : ℤ) → mag (x *ℤ y) ≤ nat_abs x * nat_abs y
mag-mul (pos a) (pos b) = omega arith
mag-mul (pos a) (negsuc b) = omega (arith, neg-pos (a * suc b))
mag-mul (negsuc a) (pos b) = omega (arith, neg-pos (suc a * b))
mag-mul (negsuc a) (negsuc b) = omega arith

-- the first factor is a literal
pub within-mul : (n : ℕ) (x y : ℤ) → Within ((n - 1) / nat_abs x) y → T (ltb 0 n) → Within n (x *ℤ y)
within-mul n x y h t = record { within = omega (arith, mag-mul x y, ltb→lt 0 n t, mul-le-mul_left (nat_abs x) b, div-mul-le_self (n - 1) (nat_abs x)) }
  where
    b : nat_abs y ≤ (n - 1) / nat_abs x
    b = omega (arith, abs_mag y, h.within)

-- two factors below bounds whose product is below n
mul-below : (n p q : ℕ) (x y : ℤ) → Within p x → Within q y → p * q < n → Within n (x *ℤ y)
mul-below n p q x y h k t = record { within = omega (arith, mag-mul x y, mul-le-mul_left (nat_abs x) b, mul-le-mul_right q a) }
  where
    a : nat_abs x ≤ p
    a = omega (arith, abs_mag x, h.within)

    b : nat_abs y ≤ q
    b = omega (arith, abs_mag y, k.within)

-- the first factor is an i8, as a coefficient of the transform
pub within-mul8 : (n : ℕ) (x y : ℤ) → Within 128 x → Within ((n - 1) / 128) y → T (ltb 0 n) → Within n (x *ℤ y)
within-mul8 n x y h k t = mul-below n 128 ((n - 1) / 128) x y h k (omega (arith, ltb→lt 0 n t))

-- both factors are i32
pub within-mul32 : (n : ℕ) (x y : ℤ) → Within 2147483648 x → Within 2147483648 y → T (ltb 4611686018427387904 n) → Within n (x *ℤ y)
within-mul32 n x y h k t = mul-below n 2147483648 2147483648 x y h k (ltb→lt 4611686018427387904 n t)

-- ---- division by a literal: toward zero, by a shift, down
pub within-quot : (n k : ℕ) (x : ℤ) → Within (n * k) x → T (ltb 0 k) → Within n (quot_z x (pos k))
within-quot n k (pos a) h t = record { within = (div-lt_iff_lt-mul (ltb→lt 0 k t)).1 h.within }
within-quot n k (negsuc a) h t = record { within = omega (arith, neg-pos (suc a / k), some n h.within, div-le_of_le-mul k {m = suc a} {n = n} (omega (arith, h.within))) }
  where
    some : (n : ℕ) → a < n * k → 0 < n
    some zero h = omega arith
    some (suc n) h = omega arith

pub within-shr : (n k : ℕ) (x : ℤ) → Within (n * k) x → T (ltb 0 k) → Within n (shr_z x k)
within-shr n k (pos a) h t = record { within = (div-lt_iff_lt-mul (ltb→lt 0 k t)).1 h.within }
within-shr n k (negsuc a) h t = record { within = (div-lt_iff_lt-mul (ltb→lt 0 k t)).1 h.within }

-- a shift rounds down
pub shr-floor : (z : ℤ) (k : ℕ) → shr_z z k ≡ floor_z z k
unfolding floor_z
shr-floor (pos a) k = refl
shr-floor (negsuc a) k = refl

pub within-floor : (n k : ℕ) (x : ℤ) → Within (n * k) x → T (ltb 0 k) → Within n (floor_z x k)
within-floor n k x h t = subst (Within n) (shr-floor x k) (within-shr n k x h t)

-- ---- what a test told
pub no_lt : (a b : ℤ) → lt_z a b ≡ false → b ≤ℤ a
no_lt a b e = lt_z_no (subst (λ (t : Bool). T (not t)) (sym e) tt)

pub yes_lt : (a b : ℤ) → lt_z a b ≡ true → a <ℤ b
yes_lt a b e = lt_z_yes (subst T (sym e) tt)

pub yes_le : (a b : ℤ) → le_z a b ≡ true → a ≤ℤ b
yes_le a b e = le_z_yes (subst T (sym e) tt)

pub no_le : (a b : ℤ) → le_z a b ≡ false → b <ℤ a
no_le (pos a) (pos b) e = lt_z_yes (lt→ltb b a (leb-false a b e))
no_le (pos a) (negsuc b) e = lt_z_yes tt
no_le (negsuc a) (pos b) e = absurd (subst T e tt)
no_le (negsuc a) (negsuc b) e = lt_z_yes (lt→ltb a b (leb-false b a e))

pub lt-le : (a b : ℤ) → a <ℤ b → a ≤ℤ b
lt-le (pos a) (pos b) h = le_z_yes (le→leb a b (le_of_lt (ltb→lt a b h.lt)))
lt-le (pos a) (negsuc b) h = absurd h.lt
lt-le (negsuc a) (pos b) h = le_z_yes tt
lt-le (negsuc a) (negsuc b) h = le_z_yes (le→leb b a (le_of_lt (ltb→lt b a h.lt)))

-- between two that are within
pub within-range : (n : ℕ) (lo hi z : ℤ) → lo ≤ℤ z → z ≤ℤ hi → Within n lo → Within n hi → Within n z
within-range n lo hi (pos a) h k t u = record { within = up hi k u }
  where
    up : (hi : ℤ) → pos a ≤ℤ hi → Within n hi → a < n
    up (pos b) k u = lt_of_le_of_lt (leb→le a b k.le) u.within
    up (negsuc b) k u = absurd k.le
within-range n lo hi (negsuc a) h k t u = record { within = down lo h t }
  where
    down : (lo : ℤ) → lo ≤ℤ negsuc a → Within n lo → a < n
    down (pos b) h t = absurd h.le
    down (negsuc b) h t = lt_of_le_of_lt (leb→le a b h.le) t.within

-- ---- a cast to an unsigned number: not negative, and its magnitude fits
pub nonneg-no : (z : ℤ) → lt_z z (pos 0) ≡ false → T (non_neg z)
nonneg-no (pos n) e = tt
nonneg-no (negsuc n) e = absurd (subst T e tt)

pub nonneg-le : (z : ℤ) → le_z (pos 0) z ≡ true → T (non_neg z)
nonneg-le (pos n) e = tt
nonneg-le (negsuc n) e = absurd (subst T (sym e) tt)

pub nonneg-read : (w : Width) (z : ℤ) → SFits w z → T (non_neg z) → T (non_neg (to_z w (of_z w z)))
nonneg-read w z h t = subst (λ (v : ℤ). T (non_neg v)) (sym (to_z-of_z h)) t

pub fits-abs : (w : Width) (z : ℤ) → Within (2 ^ bits w - 1) z → Fits w (nat_abs z)
fits-abs w z h = record { fits = omega (arith, abs_mag z, h.within) }

-- between two tests
pub fits-between : (w : Width) (z : ℤ) (k : ℕ) → lt_z z (pos 0) ≡ false → lt_z (pos k) z ≡ false → T (ltb k (2 ^ bits w)) → Fits w (nat_abs z)
fits-between w (pos a) k e f t = record { fits = lt_of_le_of_lt (ltb-false k a f) (ltb→lt k (2 ^ bits w) t) }
fits-between w (negsuc a) k e f t = absurd (subst T e tt)

-- a value that is known to be m
pub cast_unsigned : (w : Width) {z : ℤ} {m : ℕ} → z ≡ pos m → m < 2 ^ bits w → T (non_neg z) × Fits w (nat_abs z)
cast_unsigned w e l = subst (λ (z : ℤ). T (non_neg z) × Fits w (nat_abs z)) (sym e) (tt, record { fits = l })

pub if_yes : {A : Type 0} (t : Bool) (x y : A) → t ≡ true → (when t then x else y) ≡ x
unfolding when◌then◌else◌
if_yes t x y e = simp e

pub if_no : {A : Type 0} (t : Bool) (x y : A) → t ≡ false → (when t then x else y) ≡ y
unfolding when◌then◌else◌
if_no t x y e = simp e

-- ---- the definitions of specs/, by cases of their tests
pub if-ind : {A : Type 0} (P : A → Type 0) (t : Bool) (x y : A) → (t ≡ true → P x) → (t ≡ false → P y) → P (when t then x else y)
unfolding when◌then◌else◌
if-ind P true x y h k = h refl
if-ind P false x y h k = k refl

pub clamp-ind : (P : ℤ → Type 0) (lo hi z : ℤ) → (lt_z z lo ≡ true → P lo) → (lt_z z lo ≡ false → lt_z hi z ≡ true → P hi) → (lt_z z lo ≡ false → lt_z hi z ≡ false → P z) → P (clamp_z lo hi z)
unfolding clamp_z
clamp-ind P lo hi z f g h = if-ind P (lt_z z lo) lo _ f (λ e. if-ind P (lt_z hi z) hi z (g e) (h e))

-- what answers as `clamp_z` does at each outcome of its two tests
pub is-clamp : {lo hi z x : ℤ} → (lt_z z lo ≡ true → x ≡ lo) → (lt_z z lo ≡ false → lt_z hi z ≡ true → x ≡ hi) → (lt_z z lo ≡ false → lt_z hi z ≡ false → x ≡ z) → x ≡ clamp_z lo hi z
is-clamp {lo} {hi} {z} {x} f g h = clamp-ind (λ y. x ≡ y) lo hi z f g h

-- ---- and their ranges
pub within-if : (n : ℕ) (t : Bool) (x y : ℤ) → Within n x → Within n y → Within n (when t then x else y)
within-if n t x y h k = if-ind (Within n) t x y (λ _. h) (λ _. k)

pub within-min : (n : ℕ) (x y : ℤ) → Within n x → Within n y → Within n (min_z x y)
unfolding min_z
within-min n x y h k = within-if n (lt_z x y) x y h k

pub within-max : (n : ℕ) (x y : ℤ) → Within n x → Within n y → Within n (max_z x y)
unfolding max_z
within-max n x y h k = within-if n (lt_z x y) y x k h

pub within-clamp : (n : ℕ) (lo hi z : ℤ) → Within n lo → Within n hi → Within n (clamp_z lo hi z)
within-clamp n lo hi z t u = clamp-ind (Within n) lo hi z (λ _. t) (λ _ _. u) (λ e f. within-range n lo hi z (no_lt z lo e) (no_lt hi z f) t u)

pub within-sat : (n : ℕ) (z : ℤ) → T (ltb 2147483647 n) → Within n (sat_z z)
unfolding sat_z
within-sat n z t = within-clamp n least_i32 most_i32 z (within-lit n least_i32 t) (within-lit n most_i32 t)

pub within-median : (n : ℕ) (a b c : ℤ) → Within n a → Within n b → Within n (median_z a b c)
unfolding median_z
within-median n a b c h k = within-clamp n (min_z a b) (max_z a b) c (within-min n a b h k) (within-max n a b h k)

-- ---- the sets
-- `ranges` concludes no fit and `signed` none of the widths' own ranges: a search would go round, from a range to a fit and back.
pub ruleset forms = (tt, within-lit, within-read, within-add, within-neg, within-mul, within-mul8, within-mul32, within-quot, within-shr, within-floor, within-sat, within-clamp, within-min, within-max, within-median, within-if, within-mag, within-abs, within-cast, within-bits, within-range, within-is, no_lt, yes_le, yes_lt, no_le, lt-le)

pub ruleset ranges = (forms, within-i32, within-i64, within-i16, within-i8)

pub ruleset signed = (lit<, fits-within, within-fits, forms, nonneg-no, nonneg-le, nonneg-read, fits-between, fits-abs)

-- ---- what a call gave
-- its result, read back: `back w32 c.f.ok c.f.ensures`
pub back : (w : Width) {z x : ℤ} → mag z < 2 ^ hbits w → z ≡ x → to_z w (of_z w z) ≡ x
back w h e = to_z-of_z (record { sfits = h }) ∙ e

-- what a callee says of x, said of y: `via sat_z c.sat_i32.ensures (search reads depth 20)`
pub via : {A : Type 0} (f : ℤ → A) {r : A} {x y : ℤ} → r ≡ f x → x ≡ y → r ≡ f y
via f e h = e ∙ ap f h
