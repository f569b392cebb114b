-- The universal code is a format: code k is read exactly where the bits of k stand.
-- Assumes nothing.
use mathlib.Core.Path.{◌≡◌, refl, sym, ap, ◌∙◌, subst}
use mathlib.Core.Bool.{Bool, true, false}
use mathlib.Core.List.{List, [], ◌∷◌, ◌++◌}
use mathlib.Core.Logic.{⊎_elim, ◌⊎◌, inl, inr}
use Prim.Native.Nat.{ℕ, zero, suc, ◌+◌, ◌-◌, ◌*◌, ◌/◌, ◌%◌, ◌^◌, ◌<◌, ◌≤◌}
use native.Mathlib.Nat.{pos_of_div-pos, div-one, div-lt_iff_lt-mul}
use native.Mathlib.Numerals.{add-one, one-add}
use native.Mathlib.Omega.{arith}
use borrow.Author.Tests.{le-leb, lt-leb, eqb-true, eqb-false, leb-true, leb-false, eq-eqb, ne_eqb}
use lib.Dec.{lit<, lit≤, leb}
use lib.Pow.{pow_pos, pow_mono, shr-shr}
use lib.ListN.{length}
use Rattle.refusal.specs.Got.{Got, got, refused, after}
use Rattle.std.specs.Prelude.{Ok}
use Rattle.refusal.specs.Answered.{answered}
use Rattle.refusal.specs.Format.{Came, Format}
use Rattle.refusal.proofs.Answered.{answered-got}
use Rattle.refusal.proofs.Formats.{got-value, got-count, never}
use Rattle.bits.specs.Bits.{odd}
use Rattle.bits.specs.Code.{code_from, code, CodeRange, bit_value, marked, places_in, code_bits}

-- ---- numbers

le-or-lt : (a b : ℕ) → (a ≤ b) ⊎ (b < a)
le-or-lt a b = go (leb a b) refl
  where
    go : (t : Bool) → leb a b ≡ t → (a ≤ b) ⊎ (b < a)
    go true e = inl (leb-true a b e)
    go false e = inr (leb-false a b e)

-- one more binary place
shift : (m n : ℕ) → m / 2 ^ suc n ≡ m / 2 ^ n / 2
shift m n = rw (← (add-one n)) (sym (shr-shr m n 1))

shift' : (m n : ℕ) → m / 2 ^ suc n ≡ m / 2 / 2 ^ n
shift' m n = rw (← (one-add n)) (sym (shr-shr m 1 n))

odd-value : (m : ℕ) → 2 * (m / 2) + bit_value (odd m) ≡ m
odd-value m = go (odd m) refl
  where
    go : (t : Bool) → odd m ≡ t → 2 * (m / 2) + bit_value t ≡ m
    go true e = omega (arith, eqb-true (m % 2) 1 e)
    go false e = let n : m % 2 ≡ 1 → ⊥ = eqb-false (m % 2) 1 e in omega arith

value-odd : (a : ℕ) (d : Bool) → odd (2 * a + bit_value d) ≡ d
value-odd a true = eq-eqb ((2 * a + 1) % 2) 1 (omega arith)
value-odd a false = ne_eqb ((2 * a + 0) % 2) 1 (omega arith)

value-half : (a : ℕ) (d : Bool) → (2 * a + bit_value d) / 2 ≡ a
value-half a true = omega arith
value-half a false = omega arith

length_marked : (n m : ℕ) → length (marked n m) ≡ 2 * n + 1
unfolding marked
length_marked zero m = refl
length_marked (suc n) m = omega (arith, length_marked n m)

-- places_in is the place of the leading 1
placed : (f m : ℕ) → 0 < m → m < 2 ^ suc f → (places_in f m ≤ f) × (m / 2 ^ places_in f m ≡ 1)
unfolding places_in
placed zero m a b = (lit≤ tt, omega arith)
placed (suc f) m a b = ⊎_elim
    (λ (h : m ≤ 1). rw (le-leb m 1 h) (omega arith, omega arith))
    (λ (h : 1 < m).
    let b' : m / 2 < 2 ^ suc f = omega arith in
    let i = placed f (m / 2) (omega arith) b' in
    rw (lt-leb m 1 h) (omega arith, shift' m (places_in f (m / 2)) ∙ i.1))
    (le-or-lt m 1)

-- and the only such place
leading : (f n m : ℕ) → n ≤ f → m / 2 ^ n ≡ 1 → places_in f m ≡ n
unfolding places_in
leading zero n m h e = omega arith
leading (suc f) zero m h e = rw (le-leb m 1 (omega (arith, e)))
leading (suc f) (suc n) m h e =
    let e' : m / 2 / 2 ^ n ≡ 1 = sym (shift' m n) ∙ e in
    let z : 0 < m / 2 = pos_of_div-pos (2 ^ n) (omega arith) in
    rw (lt-leb m 1 (omega arith)) (ap suc (leading f n (m / 2) (omega arith) e'))

-- ---- what is written is read
read : (n room m : ℕ) (s : List Bool) → n ≤ room → code_from room (m / 2 ^ n) (marked n m ++ s) ≡ got (m - 1) (2 * n + 1)
unfolding code_from marked
read zero room m s h = rw (div-one m)
read (suc n) zero m s h = absurd (omega arith)
read (suc n) (suc room) m s h =
    let x : 2 * (m / 2 ^ suc n) + bit_value (odd (m / 2 ^ n)) ≡ m / 2 ^ n = ap (λ (t : ℕ). 2 * t + bit_value (odd (m / 2 ^ n))) (shift m n) ∙ odd-value (m / 2 ^ n) in
    let y : 2 + (2 * n + 1) ≡ 2 * suc n + 1 = omega arith in
    ap (λ (t : ℕ). after 2 (code_from room t (marked n m ++ s))) x ∙ ap (after 2) (read n room m s (omega arith)) ∙ ap (got (m - 1)) y

code_reads : (k : ℕ) (s : List Bool) → CodeRange k → code (code_bits k ++ s) ≡ got k (length (code_bits k))
unfolding code code_bits
code_reads k s h =
    let i = placed 31 (k + 1) (omega arith) (omega arith) in
    let n = places_in 31 (k + 1) in
    let x : k + 1 - 1 ≡ k = omega arith in
    subst (λ (a : ℕ). code_from 31 a (marked n (k + 1) ++ s) ≡ got k (length (marked n (k + 1)))) i.1
    (rw (length_marked n (k + 1)) (read n 31 (k + 1) s i.0 ∙ ap (λ (t : ℕ). got t (2 * n + 1)) x))

-- ---- what is read was written
record Found (room a : ℕ) (s : List Bool) (k q : ℕ) : Type 0 where
  pub n : ℕ
  pub rest : List Bool
  pub within : n ≤ room
  pub top : (k + 1) / 2 ^ n ≡ a
  pub bits : s ≡ marked n (k + 1) ++ rest
  pub taken : q ≡ 2 * n + 1

found : (room a : ℕ) → 0 < a → (s : List Bool) (k q : ℕ) → code_from room a s ≡ got k q → Found room a s k q
unfolding code_from marked
found room a z [] k q e = never e
found room a z (true ∷ s) k q e =
    let x : a - 1 ≡ k = got-value e in
    record { n = 0; rest = s; within = omega arith; top = omega arith; bits = refl; taken = sym (got-count e) }
found zero a z (false ∷ s) k q e = never e
found (suc room) a z (false ∷ []) k q e = never e
found (suc room) a z (false ∷ d ∷ s) k q e =
    more (λ q' h. found room (2 * a + bit_value d) (omega arith) s k q' h) (code_from room (2 * a + bit_value d) s) refl e
  where
    more : ((q' : ℕ) → code_from room (2 * a + bit_value d) s ≡ got k q' → Found room (2 * a + bit_value d) s k q')
        → (g : Got ℕ) → code_from room (2 * a + bit_value d) s ≡ g → after 2 g ≡ got k q → Found (suc room) a (false ∷ d ∷ s) k q
    more on (refused r) h e = never e
    more on (got k' q') h e =
        let m = k + 1 in
        let f = on q' (h ∙ ap (λ (t : ℕ). got t q') (got-value e)) in
        let o : odd (m / 2 ^ f.n) ≡ d = ap odd f.top ∙ value-odd a d in
        record {
          n = suc f.n;
          rest = f.rest;
          within = omega arith;
          top = shift m f.n ∙ ap (λ (t : ℕ). t / 2) f.top ∙ value-half a d;
          bits = cc f.bits;
          taken = omega (arith, f.taken, got-count e);
        }

code-came : (s : List Bool) (k q : ℕ) → code s ≡ got k q → Came code_bits CodeRange s k q
unfolding code code_bits
code-came s k q e =
    let f = found 31 1 (lit< tt) s k q e in
    let n : places_in 31 (k + 1) ≡ f.n = leading 31 f.n (k + 1) f.within f.top in
    let below : (k + 1) / 2 ^ f.n < 2 = omega (arith, f.top) in
    let big : k + 1 < 2 * 2 ^ f.n = (div-lt_iff_lt-mul (pow_pos f.n)).0 below in
    record {
      in_range = omega (arith, big, pow_mono f.within);
      starts = record { rest = f.rest; is = rw n f.bits };
      taken = rw (n, length_marked f.n (k + 1)) f.taken;
    }

-- UNIQUE READING of a code: the reader answers (k, taken) exactly where the bits taken are those of k
pub code-format : Format code code_bits CodeRange
code-format = record { reads = code_reads; came = code-came }

-- a code that was answered has at most 31 data bits
pub code-range : (at : ℕ) (s : List Bool) (k q : ℕ) → Ok (k, q) ≡ answered at (code s) → CodeRange k
code-range at s k q e = let a = answered-got at (code s) k q e in (code-format.came s k a.taken a.is).in_range
