-- The bit at a place of a list of bytes, and the bits from a place on.
-- Assumes nothing.
use mathlib.Core.Path.{◌≡◌, refl, sym, ap, ap₂, ◌∙◌}
use mathlib.Core.Bool.{Bool, true, false}
use mathlib.Core.List.{List, [], ◌∷◌, ◌++◌}
use Prim.Native.Nat.{ℕ, zero, suc, ◌+◌, ◌-◌, ◌*◌, ◌/◌, ◌%◌, ◌^◌, ◌<◌, ◌≤◌}
use native.Mathlib.Nat.{div-one, div-add-mod', mod-lt}
use native.Mathlib.Numerals.{add-one}
use native.Mathlib.Omega.{arith}
use borrow.Author.Tests.{ltb-true, ltb-false}
use lib.Dec.{lit<, eqb, ltb}
use lib.Pow.{shl_exact, shl-shr, shr-shr}
use lib.ListN.{length, get_or, drop, drop_of_length-le}
use lib.Seq.{drop-cons}
use Rattle.bits.specs.Bits.{odd, byte_bits, bit_list}

pub length-bits : (s : List ℕ) → length (bit_list s) ≡ 8 * length s
unfolding bit_list
length-bits [] = refl
length-bits (x ∷ xs) = omega (arith, length-bits xs)

in-byte : (x : ℕ) (t : List Bool) (r : ℕ) → r < 8 → get_or (byte_bits x ++ t) r false ≡ odd (x / 2 ^ (7 - r))
in-byte x t zero h = refl
in-byte x t (suc zero) h = refl
in-byte x t (suc (suc zero)) h = refl
in-byte x t (suc (suc (suc zero))) h = refl
in-byte x t (suc (suc (suc (suc zero)))) h = refl
in-byte x t (suc (suc (suc (suc (suc zero))))) h = refl
in-byte x t (suc (suc (suc (suc (suc (suc zero)))))) h = refl
in-byte x t (suc (suc (suc (suc (suc (suc (suc zero))))))) h = ap odd (sym (div-one x))
in-byte x t (suc (suc (suc (suc (suc (suc (suc (suc r)))))))) h = absurd (omega arith)

by_byte : (s : List ℕ) (q r : ℕ) → q < length s → r < 8 → get_or (bit_list s) (q * 8 + r) false ≡ odd (get_or s q 0 / 2 ^ (7 - r))
unfolding bit_list
by_byte [] q r h k = absurd (omega arith)
by_byte (x ∷ xs) zero r h k = let e : 0 * 8 + r ≡ r = omega arith in rw e (in-byte x (bit_list xs) r k)
by_byte (x ∷ xs) (suc q) r h k =
    let e : suc q * 8 + r ≡ suc (suc (suc (suc (suc (suc (suc (suc (q * 8 + r)))))))) = omega arith in
    rw e (by_byte xs q r (omega arith) k)

pub bit_at : (s : List ℕ) (p : ℕ) → p / 8 < length s → get_or (bit_list s) p false ≡ odd (get_or s (p / 8) 0 / 2 ^ (7 - p % 8))
bit_at s p h =
    ap (λ (n : ℕ). get_or (bit_list s) n false) (sym (div-add-mod' p 8)) ∙ by_byte s (p / 8) (p % 8) h (mod-lt p (lit< tt))

-- past the last byte no bit is left
pub past : (s : List ℕ) (p : ℕ) → length s ≤ p / 8 → drop p (bit_list s) ≡ []
past s p h = let k : length (bit_list s) ≤ p = omega (arith, length-bits s) in drop_of_length-le (bit_list s) k

-- within it one is
pub here : (s : List ℕ) (p : ℕ) → p / 8 < length s → drop p (bit_list s) ≡ get_or (bit_list s) p false ∷ drop (p + 1) (bit_list s)
here s p h = rw (add-one, drop-cons (bit_list s) p false (omega (arith, length-bits s)))

-- ---- the eight bits from a place on
eight : (P : ℕ → Type 0) (m : ℕ) → m < 8 → P 0 → P 1 → P 2 → P 3 → P 4 → P 5 → P 6 → P 7 → P m
eight P zero h a b c d e f g i = a
eight P (suc zero) h a b c d e f g i = b
eight P (suc (suc zero)) h a b c d e f g i = c
eight P (suc (suc (suc zero))) h a b c d e f g i = d
eight P (suc (suc (suc (suc zero)))) h a b c d e f g i = e
eight P (suc (suc (suc (suc (suc zero))))) h a b c d e f g i = f
eight P (suc (suc (suc (suc (suc (suc zero)))))) h a b c d e f g i = g
eight P (suc (suc (suc (suc (suc (suc (suc zero))))))) h a b c d e f g i = i
eight P (suc (suc (suc (suc (suc (suc (suc (suc m)))))))) h a b c d e f g i = absurd (omega arith)

-- the bits of a byte that is cut out of a number
in-low : (n m : ℕ) → m < 8 → n % 256 / 2 ^ m % 2 ≡ n / 2 ^ m % 2
in-low n m h = eight (λ m. n % 256 / 2 ^ m % 2 ≡ n / 2 ^ m % 2) m h (omega arith) (omega arith) (omega arith) (omega arith) (omega arith) (omega arith) (omega arith) (omega arith)

-- the bits of two bytes that are joined
of-second : (x y m : ℕ) → m < 8 → (256 * x + y) / 2 ^ m % 2 ≡ y / 2 ^ m % 2
of-second x y m h = eight (λ m. (256 * x + y) / 2 ^ m % 2 ≡ y / 2 ^ m % 2) m h (omega arith) (omega arith) (omega arith) (omega arith) (omega arith) (omega arith) (omega arith) (omega arith)

of-first : (x y m : ℕ) → y < 256 → (256 * x + y) / 2 ^ (8 + m) ≡ x / 2 ^ m
of-first x y m h = let e : (256 * x + y) / 2 ^ 8 ≡ x = omega arith in sym (shr-shr (256 * x + y) 8 m) ∙ ap (λ (n : ℕ). n / 2 ^ m) e

-- eight bits of two bytes, from bit r of the first on
abbrev cut : ℕ → ℕ → ℕ → ℕ
cut x y r = (256 * x + y) / 2 ^ (8 - r) % 256

-- nine bits by a shift to the left of a 32-bit number, and one to the right
pub shifted : (x y r : ℕ) → x < 256 → y < 256 → r < 8 → (256 * x + y) * 2 ^ r % 2 ^ 32 / 2 ^ 7 % 512 ≡ (256 * x + y) / 2 ^ (7 - r) % 512
shifted x y r a b h =
    let n = 256 * x + y in
    let l : n < 2 ^ 16 = omega arith in
    let e : r + (7 - r) ≡ 7 = omega arith in
    rw (shl_exact 16 r 32 l (omega arith)) (sym (ap (λ (k : ℕ). k % 512) (sym (ap (λ (k : ℕ). k / 2 ^ (7 - r)) (shl-shr n r)) ∙ shr-shr (n * 2 ^ r) r (7 - r) ∙ ap (λ (k : ℕ). n * 2 ^ r / 2 ^ k) e)))

module _ (x y r j : ℕ) (byte : y < 256) (place : r < 8) (below : j < 8) where
  cut-bit : cut x y r / 2 ^ (7 - j) % 2 ≡ (256 * x + y) / 2 ^ (8 - r + (7 - j)) % 2
  cut-bit = in-low ((256 * x + y) / 2 ^ (8 - r)) (7 - j) (omega arith) ∙ ap (λ (n : ℕ). n % 2) (shr-shr (256 * x + y) (8 - r) (7 - j))

  cut-first : r + j < 8 → cut x y r / 2 ^ (7 - j) % 2 ≡ x / 2 ^ (7 - (r + j)) % 2
  cut-first h =
      let e : 8 - r + (7 - j) ≡ 8 + (7 - (r + j)) = omega arith in
      cut-bit ∙ ap (λ (n : ℕ). (256 * x + y) / 2 ^ n % 2) e ∙ ap (λ (n : ℕ). n % 2) (of-first x y (7 - (r + j)) byte)

  cut-second : 8 ≤ r + j → cut x y r / 2 ^ (7 - j) % 2 ≡ y / 2 ^ (7 - (r + j - 8)) % 2
  cut-second h =
      let e : 8 - r + (7 - j) ≡ 7 - (r + j - 8) = omega arith in
      cut-bit ∙ ap (λ (n : ℕ). (256 * x + y) / 2 ^ n % 2) e ∙ of-second x y (7 - (r + j - 8)) (omega arith)

module _ (s : List ℕ) (p : ℕ) (within : p / 8 + 1 < length s) (byte : get_or s (p / 8 + 1) 0 < 256) where
  abbrev w : ℕ
  w = cut (get_or s (p / 8) 0) (get_or s (p / 8 + 1) 0) (p % 8)

  cut_at : (j : ℕ) → j < 8 → get_or (bit_list s) (p + j) false ≡ odd (w / 2 ^ (7 - j))
  cut_at j h = bit_at s (p + j) (omega arith) ∙ ap (λ (n : ℕ). eqb n 1) (sym (go (ltb (p % 8 + j) 8) refl))
    where
      go : (t : Bool) → ltb (p % 8 + j) 8 ≡ t → w / 2 ^ (7 - j) % 2 ≡ get_or s ((p + j) / 8) 0 / 2 ^ (7 - (p + j) % 8) % 2
      go true e =
          let l = ltb-true (p % 8 + j) 8 e in
          let q : p / 8 ≡ (p + j) / 8 = omega arith in
          let r : p % 8 + j ≡ (p + j) % 8 = omega arith in
          cut-first (get_or s (p / 8) 0) (get_or s (p / 8 + 1) 0) (p % 8) j byte (omega arith) h l ∙ ap₂ (λ a b. get_or s a 0 / 2 ^ (7 - b) % 2) q r
      go false e =
          let l = ltb-false (p % 8 + j) 8 e in
          let q : p / 8 + 1 ≡ (p + j) / 8 = omega arith in
          let r : p % 8 + j - 8 ≡ (p + j) % 8 = omega arith in
          cut-second (get_or s (p / 8) 0) (get_or s (p / 8 + 1) 0) (p % 8) j byte (omega arith) h l ∙ ap₂ (λ a b. get_or s a 0 / 2 ^ (7 - b) % 2) q r

  next_bit : (j : ℕ) → j < 8 → drop (p + j) (bit_list s) ≡ odd (w / 2 ^ (7 - j)) ∷ drop (p + (j + 1)) (bit_list s)
  next_bit j h =
      let e : p + j + 1 ≡ p + (j + 1) = omega arith in
      here s (p + j) (omega arith) ∙ ap₂ (λ b n. b ∷ drop n (bit_list s)) (cut_at j h) e

  -- they are the byte that is cut out of the two bytes
  byte_at : drop p (bit_list s) ≡ byte_bits w ++ drop (p + 8) (bit_list s)
  byte_at =
      let z : p ≡ p + 0 = omega arith in
      ap (λ (n : ℕ). drop n (bit_list s)) z ∙ rw (next_bit 0 (lit< tt), next_bit 1 (lit< tt), next_bit 2 (lit< tt), next_bit 3 (lit< tt), next_bit 4 (lit< tt), next_bit 5 (lit< tt), next_bit 6 (lit< tt), next_bit 7 (lit< tt), div-one w)

  -- ---- and the ninth
  abbrev v : ℕ
  v = (256 * get_or s (p / 8) 0 + get_or s (p / 8 + 1) 0) / 2 ^ (7 - p % 8) % 512

  half-nine : v / 2 ≡ w
  half-nine =
      let n = 256 * get_or s (p / 8) 0 + get_or s (p / 8 + 1) 0 in
      let e : 7 - p % 8 + 1 ≡ 8 - p % 8 = omega arith in
      let h : n / 2 ^ (7 - p % 8) % 512 / 2 ≡ n / 2 ^ (7 - p % 8) / 2 ^ 1 % 256 = omega arith in
      h ∙ ap (λ (k : ℕ). k % 256) (shr-shr n (7 - p % 8) 1 ∙ ap (λ (k : ℕ). n / 2 ^ k) e)

  ninth-bit : get_or (bit_list s) (p + 8) false ≡ odd v
  ninth-bit =
      let n = 256 * get_or s (p / 8) 0 + get_or s (p / 8 + 1) 0 in
      let q : (p + 8) / 8 ≡ p / 8 + 1 = omega arith in
      let r : (p + 8) % 8 ≡ p % 8 = omega arith in
      let h : n / 2 ^ (7 - p % 8) % 512 % 2 ≡ n / 2 ^ (7 - p % 8) % 2 = omega arith in
      bit_at s (p + 8) (omega arith) ∙ ap₂ (λ a b. odd (get_or s a 0 / 2 ^ (7 - b))) q r ∙ ap (λ (k : ℕ). eqb k 1) (sym (h ∙ of-second (get_or s (p / 8) 0) (get_or s (p / 8 + 1) 0) (7 - p % 8) (omega arith)))

  pub nine-at : (drop p (bit_list s) ≡ byte_bits (v / 2) ++ drop (p + 8) (bit_list s)) × (drop (p + 8) (bit_list s) ≡ odd v ∷ drop (p + 9) (bit_list s))
  nine-at =
      let e : p + 8 + 1 ≡ p + 9 = omega arith in
      (byte_at ∙ ap (λ (k : ℕ). byte_bits k ++ drop (p + 8) (bit_list s)) (sym half-nine), here s (p + 8) (omega arith) ∙ ap₂ (λ b n. b ∷ drop n (bit_list s)) ninth-bit e)
