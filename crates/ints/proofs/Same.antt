-- That what the machine computes is what the definition says. `Reads n z x`: z is x, and x lies in -n to n - 1.
-- z is a number as the code makes it, each value read back from its bits, and x the same number in plain ℤ. A search goes down both at once. In a proof, under `unfolding` of the contract's own definition:
--     search reads depth 20                          a `returns` that is an equation of signed numbers
--     search reads fits 20000 depth 30               a longer one, its parameters bound by `let record { a = a; .. } = c.before.fits in`
--     via sat_z c.sat-i32.ensures (search reads depth 20)     where the last step is a call, here of `sat_i32`
-- The library's `ints` proves the sums of transform/proofs/exact too, as Fits.antt says.
-- Assumes nothing.
use mathlib.Core.Path.{◌≡◌, refl, sym, subst, ap, ap₂, ◌∙◌}
use Prim.Native.Nat.{ℕ, ◌*◌, ◌-◌, ◌/◌, ◌^◌, ◌<◌, min}
use native.Mathlib.Omega.{arith}
use lib.Dec.{T, leb, ltb, leb→le}
use lib.IntN.{ℤ, pos, neg_ℤ, nat_abs, ◌+ℤ◌, ◌*ℤ◌, +ℤ_idl}
use lib.Signed.{mag, quot_z, shr_z}
use mir.Syntax.{Width}
use mir.Val.{hbits, to_z, of_z}
use mir.Facts.{to_z-of_z, to_z_pos}
use Rattle.ints.specs.Z.{sat_z, clamp_z, min_z, max_z, median_z, floor_z}
use Rattle.ints.proofs.Fits.{Within, ranges, within-add, within-neg, within-mul, within-mul8, within-mul32, within-quot, within-floor, within-sat, within-clamp, within-min, within-max, within-median, shr-floor}

pub record Reads (n : ℕ) (z x : ℤ) : Type 0 where
  pub is : z ≡ x
  pub in_range : Within n x

-- the goal of a `returns`, or of an argument of a call
pub reads-eq : (z x : ℤ) → Reads 9223372036854775808 z x → z ≡ x
reads-eq z x h = h.is

-- a parameter, a literal, or what a lemma of `ranges` bounds
pub reads_same : (n : ℕ) (x : ℤ) → Within n x → Reads n x x
reads_same n x h = record { is = refl; in_range = h }

pub reads-read : (w : Width) (n : ℕ) (z x : ℤ) → Reads (min n (2 ^ hbits w)) z x → Reads n (to_z w (of_z w z)) x
reads-read w n z x h = record { is = to_z-of_z {w = w} {z = z} (record { sfits = subst (λ (v : ℤ). mag v < 2 ^ hbits w) (sym h.is) (omega (arith, h.in_range.within)) }) ∙ h.is; in_range = record { within = omega (arith, h.in_range.within) } }

-- an unsigned number, cast
pub reads-cast : (w : Width) (n m a : ℕ) → a < m → T (leb m (min n (2 ^ hbits w))) → Reads n (to_z w a) (pos a)
reads-cast w n m a h t = record { is = to_z_pos w (omega (arith, leb→le m (min n (2 ^ hbits w)) t)); in_range = record { within = omega (arith, leb→le m (min n (2 ^ hbits w)) t) } }

-- ---- sums and products; -x is lowered as 0 - x
pub reads-add : (n : ℕ) (a b x y : ℤ) → Reads (n / 2) a x → Reads (n / 2) b y → Reads n (a +ℤ b) (x +ℤ y)
reads-add n a b x y h k = record { is = ap₂ ◌+ℤ◌ h.is k.is; in_range = within-add n x y h.in_range k.in_range }

pub reads-neg : (n : ℕ) (a x : ℤ) → Reads (n - 1) a x → Reads n (neg_ℤ a) (neg_ℤ x)
reads-neg n a x h = record { is = ap neg_ℤ h.is; in_range = within-neg n x h.in_range }

pub reads-idl : (n : ℕ) (a x : ℤ) → Reads n a x → Reads n (pos 0 +ℤ a) x
reads-idl n a x h = record { is = +ℤ_idl a ∙ h.is; in_range = h.in_range }

-- the first factor a literal, an i8, or both i32
pub reads-mul : (n : ℕ) (l b y : ℤ) → Reads ((n - 1) / nat_abs l) b y → T (ltb 0 n) → Reads n (l *ℤ b) (l *ℤ y)
reads-mul n l b y h t = record { is = ap (λ v. l *ℤ v) h.is; in_range = within-mul n l y h.in_range t }

pub reads-mul8 : (n : ℕ) (a b x y : ℤ) → Reads 128 a x → Reads ((n - 1) / 128) b y → T (ltb 0 n) → Reads n (a *ℤ b) (x *ℤ y)
reads-mul8 n a b x y h k t = record { is = ap₂ ◌*ℤ◌ h.is k.is; in_range = within-mul8 n x y h.in_range k.in_range t }

pub reads-mul32 : (n : ℕ) (a b x y : ℤ) → Reads 2147483648 a x → Reads 2147483648 b y → T (ltb 4611686018427387904 n) → Reads n (a *ℤ b) (x *ℤ y)
reads-mul32 n a b x y h k t = record { is = ap₂ ◌*ℤ◌ h.is k.is; in_range = within-mul32 n x y h.in_range k.in_range t }

-- ---- division by a literal toward zero, and a shift where the definition rounds down
pub reads-quot : (n k : ℕ) (a x : ℤ) → Reads (n * k) a x → T (ltb 0 k) → Reads n (quot_z a (pos k)) (quot_z x (pos k))
reads-quot n k a x h t = record { is = ap (λ v. quot_z v (pos k)) h.is; in_range = within-quot n k x h.in_range t }

pub reads-shr : (n k : ℕ) (a x : ℤ) → Reads (n * k) a x → T (ltb 0 k) → Reads n (shr_z a k) (floor_z x k)
reads-shr n k a x h t = record { is = ap (λ v. shr_z v k) h.is ∙ shr-floor x k; in_range = within-floor n k x h.in_range t }

-- ---- the definitions of specs/, as a callee's contract names them
pub reads-sat : (n : ℕ) (a x : ℤ) → Reads 9223372036854775808 a x → T (ltb 2147483647 n) → Reads n (sat_z a) (sat_z x)
reads-sat n a x h t = record { is = ap sat_z h.is; in_range = within-sat n x t }

pub reads-clamp : (n : ℕ) (l h a lo hi x : ℤ) → Reads n l lo → Reads n h hi → Reads 9223372036854775808 a x → Reads n (clamp_z l h a) (clamp_z lo hi x)
reads-clamp n l h a lo hi x p q r = record { is = λ i. clamp_z (p.is i) (q.is i) (r.is i); in_range = within-clamp n lo hi x p.in_range q.in_range }

pub reads-min : (n : ℕ) (a b x y : ℤ) → Reads n a x → Reads n b y → Reads n (min_z a b) (min_z x y)
reads-min n a b x y h k = record { is = ap₂ min_z h.is k.is; in_range = within-min n x y h.in_range k.in_range }

pub reads-max : (n : ℕ) (a b x y : ℤ) → Reads n a x → Reads n b y → Reads n (max_z a b) (max_z x y)
reads-max n a b x y h k = record { is = ap₂ max_z h.is k.is; in_range = within-max n x y h.in_range k.in_range }

pub reads-median : (n : ℕ) (a b c x y z : ℤ) → Reads n a x → Reads n b y → Reads 9223372036854775808 c z → Reads n (median_z a b c) (median_z x y z)
reads-median n a b c x y z p q r = record { is = λ i. median_z (p.is i) (q.is i) (r.is i); in_range = within-median n x y z p.in_range q.in_range }

pub reads-floor : (n k : ℕ) (a x : ℤ) → Reads (n * k) a x → T (ltb 0 k) → Reads n (floor_z a k) (floor_z x k)
reads-floor n k a x h t = record { is = ap (λ v. floor_z v k) h.is; in_range = within-floor n k x h.in_range t }

-- a call's result, by what the callee says of it
pub reads-is : (n : ℕ) (z y x : ℤ) → z ≡ y → Reads n y x → Reads n z x
reads-is n z y x e h = record { is = e ∙ h.is; in_range = h.in_range }

pub ruleset reads = (reads-eq, reads-read, reads-add, reads-neg, reads-idl, reads-mul, reads-mul8, reads-mul32, reads-quot, reads-shr, reads-sat, reads-clamp, reads-min, reads-max, reads-median, reads-floor, reads-cast, reads_same, reads-is, ranges)
