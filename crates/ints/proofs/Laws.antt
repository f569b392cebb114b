-- Laws of the definitions of specs/, and the one by which a sum is taken back.
-- An order is the outcome of a test: `lt_z b a ≡ false` says a ≤ b, as a branch and `ints` of proofs/Linear.antt have it.
-- Assumes nothing.
use mathlib.Core.Path.{◌≡◌, refl, sym, ap, subst, ◌∙◌}
use mathlib.Core.Bool.{Bool, true, false, ◌||◌, true≢false}
use mathlib.Core.Logic.{◌↔◌}
use Prim.Native.Nat.{ℕ, suc, ◌+◌, ◌*◌, ◌-◌, ◌/◌, ◌%◌, ◌≤◌, ◌<◌}
use native.Mathlib.Nat.{mul-suc, mul-add, mul-add-div, mul-add-mod_self_left, div-eq_of_lt, mod-eq_of_lt, div-le_self, lt_of_le_of_lt}
use native.Mathlib.Omega.{arith}
use lib.IntN.{ℤ, pos, negsuc, ◌+ℤ◌, ◌-ℤ◌, ◌*ℤ◌, +ℤ_assoc}
use lib.Signed.{mag, lt_z}
use mir.Syntax.{Width, w32}
use mir.Val.{SFits}
use mir.Facts.{to_z-of_z}
use Rattle.ints.specs.Z.{clamp_z, sat_z, over_z, floor_z, mod_z, least_i32, most_i32}
use Rattle.ints.specs.InnerHeld.{held_z}
use Rattle.ints.specs.declared.Held.{Held}
use Rattle.ints.proofs.Fits.{read}
use Rattle.std.proofs.lemmas.Int.{ints}
use Rattle.ints.proofs.Linear.{up, down, add-z, times-z, mag-z, min-z, clamp-z, sat-z, floor-z}

-- ---- held in a range
module _ (lo hi z : ℤ) (h : lt_z hi lo ≡ false) where
  pub clamp-low : lt_z (clamp_z lo hi z) lo ≡ false
  clamp-low = sym (omega (arith, ints, clamp-z lo hi z h))

  pub clamp-high : lt_z hi (clamp_z lo hi z) ≡ false
  clamp-high = sym (omega (arith, ints, clamp-z lo hi z h, min-z hi z))

-- ---- held in i32
pub sat-fits : (z : ℤ) → SFits w32 (sat_z z)
sat-fits z = record { sfits = omega (arith, ints, sat-z z, mag-z z) }

pub sat-same : {z : ℤ} → SFits w32 z → sat_z z ≡ z
sat-same {z} h = omega (arith, ints, sat-z z, h.sfits)

-- z leaves i32 exactly when it has to be held
or_no : (s t : Bool) → (s || t) ≡ false → (s ≡ false) × (t ≡ false)
or_no true t e = absurd (true≢false e)
or_no false t e = (refl, e)

pub over_no : (z : ℤ) → over_z z ≡ false → SFits w32 z
unfolding over_z
over_no z e = let k = or_no (lt_z z least_i32) (lt_z most_i32 z) e in record { sfits = omega (arith, ints, mag-z z) }

pub no-over : {z : ℤ} → SFits w32 z → over_z z ≡ false
unfolding over_z
no-over {z} h =
    let e : lt_z z least_i32 ≡ false = sym (omega (arith, ints, h.sfits)) in
    let f : lt_z most_i32 z ≡ false = sym (omega (arith, ints, h.sfits)) in
    rw (e, f) refl

pub over-sat : (z : ℤ) → (over_z z ≡ false) ↔ (sat_z z ≡ z)
over-sat z = (λ e. sat-same (over_no z e), λ e. no-over (subst (SFits w32) e (sat-fits z)))

-- a test that tells whether z fits, and with it what `hold` gives
over-is : {z : ℤ} (b : Bool) → (b ≡ false → SFits w32 z) → (SFits w32 z → b ≡ false) → b ≡ over_z z
over-is false f g = sym (no-over (f refl))
over-is {z} true f g = go (over_z z) refl
  where
    go : (t : Bool) → over_z z ≡ t → true ≡ over_z z
    go true e = sym e
    go false e = g (over_no z e) ∙ sym e

pub held-is : {z v : ℤ} {b : Bool} → v ≡ sat_z z → (b ≡ false → SFits w32 z) → (SFits w32 z → b ≡ false) → ◌≡◌ {A = Held} (record { value = v; over = b }) (held_z z)
unfolding held_z
held-is {b = b} h f g = λ i. record { value = h i; over = over-is b f g i }

-- ---- multiples
times-add : (k : ℕ) (a b : ℤ) → pos k *ℤ (a +ℤ b) ≡ pos k *ℤ a +ℤ pos k *ℤ b
times-add k a b =
    omega (
      arith,
      ints,
      times-z k (a +ℤ b),
      times-z k a,
      times-z k b,
      add-z (pos k *ℤ a) (pos k *ℤ b),
      ap (λ n. k * n) (add-z a b),
      mul-add k (up (a +ℤ b)) (down a + down b),
      mul-add k (down (a +ℤ b)) (up a + up b),
      mul-add k (down a) (down b),
      mul-add k (up a) (up b),
    )

-- ---- rounded down
floor-mod : (k : ℕ) (z : ℤ) → 0 < k → z ≡ pos k *ℤ floor_z z k +ℤ pos (mod_z z k)
floor-mod k z h = omega (arith, ints, floor-z k z h, times-z k (floor_z z k))

mag-floor : (z : ℤ) (k : ℕ) → mag (floor_z z k) ≤ mag z
unfolding floor_z
mag-floor (pos a) k = div-le_self a k
mag-floor (negsuc a) k = div-le_self a k

pub floor-fits : {w : Width} {v : ℤ} (k : ℕ) → SFits w v → SFits w (floor_z v k)
floor-fits {v} k f = record { sfits = lt_of_le_of_lt (mag-floor v k) f.sfits }

pub mod-less : (k : ℕ) (z : ℤ) → 0 < k → mod_z z k < k
mod-less k z h = (floor-z k z h).1

quotient : (k n r : ℕ) → r < k → ((k * n + r) / k ≡ n) × ((k * n + r) % k ≡ r)
quotient k n r h = (mul-add-div (omega arith) n r ∙ omega (arith, div-eq_of_lt h), mul-add-mod_self_left k n r ∙ mod-eq_of_lt h)

-- only this quotient and this remainder
floor-unique : (k : ℕ) (z a : ℤ) (r : ℕ) → r < k → z ≡ pos k *ℤ a +ℤ pos r → (floor_z z k ≡ a) × (mod_z z k ≡ r)
unfolding floor_z mod_z
floor-unique k (pos m) (pos n) r h e =
    let s : m ≡ k * n + r = omega (arith, ints, e, times-z k (pos n)) in
    (ap (λ x. pos (x / k)) s ∙ ap pos (quotient k n r h).0, ap (λ x. x % k) s ∙ (quotient k n r h).1)
floor-unique k (pos m) (negsuc n) r h e =
    absurd (omega (arith, ints, e, times-z k (negsuc n), mul-suc k n))
floor-unique k (negsuc m) (pos n) r h e =
    absurd (omega (arith, ints, e, times-z k (pos n)))
floor-unique k (negsuc m) (negsuc n) r h e =
    let s : m ≡ k * n + (k - suc r) = omega (arith, ints, e, times-z k (negsuc n), mul-suc k n) in
    let q = quotient k n (k - suc r) (omega arith) in
    (ap (λ x. negsuc (x / k)) s ∙ ap negsuc q.0, ap (λ x. k - suc (x % k)) s ∙ omega (arith, q.1))

-- a multiple of k passes through: 6 * x + v is x samples further than v, at the same phase
pub floor-shift : (k : ℕ) (a z : ℤ) → 0 < k → (floor_z (pos k *ℤ a +ℤ z) k ≡ a +ℤ floor_z z k) × (mod_z (pos k *ℤ a +ℤ z) k ≡ mod_z z k)
floor-shift k a z h = floor-unique k (pos k *ℤ a +ℤ z) (a +ℤ floor_z z k) (mod_z z k) (mod-less k z h) (ap (λ y. pos k *ℤ a +ℤ y) (floor-mod k z h) ∙ sym (+ℤ_assoc (pos k *ℤ a) (pos k *ℤ floor_z z k) (pos (mod_z z k))) ∙ ap (λ y. y +ℤ pos (mod_z z k)) (sym (times-add k a (floor_z z k))))

-- ---- a sum taken back
pub add-diff : (a d b : ℤ) → a +ℤ d ≡ b → d ≡ b -ℤ a
add-diff a d b e = omega (arith, ints, e)

-- ---- what a call of `hold`, `sat_add` or `sat_mul` gave, field by field: `value_of _ c.sat_add.ensures`
value_of : {r : Held} (z : ℤ) → r ≡ held_z z → r.value ≡ sat_z z
unfolding held_z
value_of z e = ap (λ h. h.value) e

pub value_read : {r : Held} (z : ℤ) → r ≡ held_z z → read w32 r.value ≡ sat_z z
value_read z e = ap (read w32) (value_of z e) ∙ to_z-of_z (sat-fits z)

pub over-of : {r : Held} (z : ℤ) → r ≡ held_z z → r.over ≡ over_z z
unfolding held_z
over-of z e = ap (λ h. h.over) e
