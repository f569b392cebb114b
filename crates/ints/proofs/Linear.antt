-- What the library's `ints` leaves for `omega` over ℤ, where z is `up z - down z`. In a proof:
--     omega (arith, ints, min-z a b, sat-z c, ..)
-- `ints` reads orders, equations, sums, differences, magnitudes and multiples by a numeral. Beside it stands a law for each other word that occurs, applied to its parts:
-- `times-z` (k * x) and `scaled-z` (x * k), `min-z`, `max-z`, `clamp-z`, `sat-z`, `clip1-z`, `floor-z` and `quot-z` (k a numeral), and `mag-z z` where it counts that one part of z is 0.
-- Assumes nothing.
use mathlib.Core.Path.{◌≡◌, refl, sym, ◌∙◌}
use mathlib.Core.Bool.{false}
use Prim.Native.Nat.{ℕ, zero, suc, ◌+◌, ◌*◌, ◌/◌, ◌<◌, min, max}
use native.Mathlib.Nat.{div-add-mod, mod-lt, zero-div}
use native.Mathlib.Omega.{arith}
pub use borrow.Author.Differences.{up, down}
use lib.IntN.{ℤ, pos, negsuc, neg_ℤ, nat_abs, ◌+ℤ◌, ◌-ℤ◌, ◌*ℤ◌, *ℤ_comm}
use lib.Signed.{mag, lt_z, quot_z}
use Rattle.std.proofs.lemmas.Int.{ints}
use Rattle.ints.specs.Z.{min_z, max_z, clamp_z, sat_z, clip1_z, floor_z, mod_z, least_i32, most_i32}
use Rattle.ints.proofs.Fits.{if-ind, clamp-ind}

-- ---- sums and multiples
pub add-z : (x y : ℤ) → up (x +ℤ y) + (down x + down y) ≡ down (x +ℤ y) + (up x + up y)
add-z x y = omega (arith, ints)

neg-z : (x : ℤ) → (up (neg_ℤ x) ≡ down x) × (down (neg_ℤ x) ≡ up x)
neg-z (pos zero) = (refl, refl)
neg-z (pos (suc n)) = (refl, refl)
neg-z (negsuc n) = (refl, refl)

pub diff-z : (x y : ℤ) → up (x -ℤ y) + (down x + up y) ≡ down (x -ℤ y) + (up x + down y)
diff-z x y = omega (arith, ints)

pub times-z : (k : ℕ) (x : ℤ) → (up (pos k *ℤ x) ≡ k * up x) × (down (pos k *ℤ x) ≡ k * down x)
times-z k (pos a) = omega arith
times-z k (negsuc a) = omega (arith, ints)

pub scaled-z : (k : ℕ) (x : ℤ) → (up (x *ℤ pos k) ≡ k * up x) × (down (x *ℤ pos k) ≡ k * down x)
scaled-z k x = rw (*ℤ_comm x (pos k)) (times-z k x)

-- ---- ranges: one part is 0, and `mag x` goes by the other
pub mag-z : (x : ℤ) → (mag x + 1 ≡ max (up x + 1) (down x)) × (min (up x) (down x) ≡ 0)
mag-z (pos n) = omega arith
mag-z (negsuc n) = omega arith

pub abs-z : (x : ℤ) → nat_abs x ≡ up x + down x
abs-z (pos n) = omega arith
abs-z (negsuc n) = omega arith

-- ---- the definitions of specs/
pub min-z : (x y : ℤ) → up (min_z x y) + (down x + down y) ≡ down (min_z x y) + min (up x + down y) (up y + down x)
unfolding min_z
min-z x y = if-ind (λ z. up z + (down x + down y) ≡ down z + min (up x + down y) (up y + down x)) (lt_z x y) x y (λ e. omega (arith, ints)) (λ e. omega (arith, ints))

pub max-z : (x y : ℤ) → up (max_z x y) + (down x + down y) ≡ down (max_z x y) + max (up x + down y) (up y + down x)
unfolding max_z
max-z x y = if-ind (λ z. up z + (down x + down y) ≡ down z + max (up x + down y) (up y + down x)) (lt_z x y) y x (λ e. omega (arith, ints)) (λ e. omega (arith, ints))

-- a clamp with lo ≤ hi is a maximum of a minimum; name `min-z hi z` beside it
clamp-is : (lo hi z : ℤ) → lt_z hi lo ≡ false → clamp_z lo hi z ≡ max_z lo (min_z hi z)
clamp-is lo hi z h =
    clamp-ind
    (λ c. c ≡ max_z lo (min_z hi z))
    lo
    hi
    z
    (λ e. omega (arith, ints, max-z lo (min_z hi z), min-z hi z))
    (λ e f. omega (arith, ints, max-z lo (min_z hi z), min-z hi z))
    (λ e f. omega (arith, ints, max-z lo (min_z hi z), min-z hi z))

pub clamp-z : (lo hi z : ℤ) → lt_z hi lo ≡ false → up (clamp_z lo hi z) + (down lo + down (min_z hi z)) ≡ down (clamp_z lo hi z) + max (up lo + down (min_z hi z)) (up (min_z hi z) + down lo)
clamp-z lo hi z h = omega (arith, ints, max-z lo (min_z hi z), clamp-is lo hi z h)

pub sat-z : (z : ℤ) → (up (sat_z z) ≡ min (up z) 2147483647) × (down (sat_z z) ≡ min (down z) 2147483648)
unfolding sat_z
sat-z z =
    clamp-ind
    (λ c. (up c ≡ min (up z) 2147483647) × (down c ≡ min (down z) 2147483648))
    least_i32
    most_i32
    z
    (λ e. omega (arith, ints, mag-z z))
    (λ e f. omega (arith, ints, mag-z z))
    (λ e f. omega (arith, ints, mag-z z))

pub clip1-z : (z : ℤ) → clip1_z z ≡ min (up z) 255
unfolding clip1_z
clip1-z z =
    clamp-ind
    (λ c. nat_abs c ≡ min (up z) 255)
    (pos 0)
    (pos 255)
    z
    (λ e. omega (arith, ints, mag-z z))
    (λ e f. omega (arith, ints, mag-z z))
    (λ e f. omega (arith, ints, mag-z z))

-- z is k times its quotient and the remainder, which is below k
pub floor-z : (k : ℕ) (z : ℤ) → 0 < k → (k * up (floor_z z k) + mod_z z k + down z ≡ up z + k * down (floor_z z k)) × (mod_z z k < k)
unfolding floor_z mod_z
floor-z k (pos a) h = (omega (arith, div-add-mod a k), mod-lt a h)
floor-z k (negsuc a) h = (omega (arith, div-add-mod a k, mod-lt a h), omega arith)

-- toward zero, each part by itself
pub quot-z : (k : ℕ) (z : ℤ) → (up (quot_z z (pos k)) ≡ up z / k) × (down (quot_z z (pos k)) ≡ down z / k)
quot-z k (pos a) = (refl, sym (zero-div k))
quot-z k (negsuc a) = ((neg-z (pos (suc a / k))).0 ∙ sym (zero-div k), (neg-z (pos (suc a / k))).1)
