-- Words that show bits: those at the top, and bits that are passed.
-- Assumes nothing.
use mathlib.Core.Path.{◌≡◌, refl, sym, ap, ap₂, subst, ◌∙◌}
use mathlib.Core.Bool.{Bool, true}
use mathlib.Core.List.{List, [], ◌∷◌, ◌++◌, append_assoc}
use Prim.Native.Nat.{ℕ, zero, suc, ◌+◌, ◌-◌, ◌*◌, ◌/◌, ◌%◌, ◌^◌, ◌<◌, ◌≤◌}
use native.Mathlib.Nat.{mul-one, pow-suc}
use native.Mathlib.Omega.{arith}
use lib.Dec.{eqb}
use lib.ListN.{length, get_or, take, drop}
use lib.Seq.{take_at, drop_at, drop-drop}
use Rattle.bits.specs.Bits.{odd, byte_bits, bit_list}
use Rattle.bits.specs.InnerWindow.{top_bits, Shows}

-- only the 64 lowest bits of w count
top-mod : (n w v : ℕ) → w % 2 ^ 64 ≡ v % 2 ^ 64 → top_bits n w ≡ top_bits n v
unfolding top_bits
top-mod zero w v e = refl
top-mod (suc n) w v e =
    let b : w / 2 ^ 63 % 2 ≡ v / 2 ^ 63 % 2 = omega arith in
    ap₂ (λ x t. eqb x 1 ∷ t) b (top-mod n (2 * w) (2 * v) (omega arith))

length-top : (n w : ℕ) → length (top_bits n w) ≡ n
unfolding top_bits
length-top zero w = refl
length-top (suc n) w = ap suc (length-top n (2 * w))

pub shows-none : (w : ℕ) (s : List Bool) → Shows w 0 s
unfolding top_bits
shows-none w s = record { few = omega arith; rest = s; starts = refl }

-- bits one after the other
pub top-add : (k n w : ℕ) → top_bits (k + n) w ≡ top_bits k w ++ top_bits n (w * 2 ^ k)
unfolding top_bits
top-add zero n w = let e : 0 + n ≡ n = omega arith in rw e (ap (top_bits n) (sym (mul-one w)))
top-add (suc k) n w =
    let e : 2 * w * 2 ^ k ≡ w * 2 ^ suc k = rw (pow-suc 2 k) (omega arith) in
    let f : suc k + n ≡ suc (k + n) = omega arith in
    rw f (ap (λ (t : List Bool). odd (w / 2 ^ 63) ∷ t) (top-add k n (2 * w) ∙ ap (λ (x : ℕ). top_bits k (2 * w) ++ top_bits n x) e))

-- ---- a byte at the top
pub top_byte : (w : ℕ) → top_bits 8 w ≡ byte_bits (w / 2 ^ 56)
unfolding top_bits
top_byte w =
    let b : (m k : ℕ) → m ≡ k → eqb m 1 ≡ eqb k 1 = λ m k e. ap (λ (x : ℕ). eqb x 1) e in
    rw (b (w / 2 ^ 63 % 2) (w / 2 ^ 56 / 128 % 2) (omega arith), b (2 * w / 2 ^ 63 % 2) (w / 2 ^ 56 / 64 % 2) (omega arith), b (2 * (2 * w) / 2 ^ 63 % 2) (w / 2 ^ 56 / 32 % 2) (omega arith), b (2 * (2 * (2 * w)) / 2 ^ 63 % 2) (w / 2 ^ 56 / 16 % 2) (omega arith), b (2 * (2 * (2 * (2 * w))) / 2 ^ 63 % 2) (w / 2 ^ 56 / 8 % 2) (omega arith), b (2 * (2 * (2 * (2 * (2 * w)))) / 2 ^ 63 % 2) (w / 2 ^ 56 / 4 % 2) (omega arith), b (2 * (2 * (2 * (2 * (2 * (2 * w))))) / 2 ^ 63 % 2) (w / 2 ^ 56 / 2 % 2) (omega arith), b (2 * (2 * (2 * (2 * (2 * (2 * (2 * w)))))) / 2 ^ 63 % 2) (w / 2 ^ 56 % 2) (omega arith))

-- ---- seven bits at the top
-- the bits of i, highest first
abbrev pub seven_bits : ℕ → List Bool
seven_bits i = odd (i / 64) ∷ odd (i / 32) ∷ odd (i / 16) ∷ odd (i / 8) ∷ odd (i / 4) ∷ odd (i / 2) ∷ odd i ∷ []

top-seven : (w : ℕ) → top_bits 7 w ≡ seven_bits (w / 2 ^ 57)
unfolding top_bits
top-seven w =
    let b : (m k : ℕ) → m ≡ k → eqb m 1 ≡ eqb k 1 = λ m k e. ap (λ (x : ℕ). eqb x 1) e in
    rw (b (w / 2 ^ 63 % 2) (w / 2 ^ 57 / 64 % 2) (omega arith), b (2 * w / 2 ^ 63 % 2) (w / 2 ^ 57 / 32 % 2) (omega arith), b (2 * (2 * w) / 2 ^ 63 % 2) (w / 2 ^ 57 / 16 % 2) (omega arith), b (2 * (2 * (2 * w)) / 2 ^ 63 % 2) (w / 2 ^ 57 / 8 % 2) (omega arith), b (2 * (2 * (2 * (2 * w))) / 2 ^ 63 % 2) (w / 2 ^ 57 / 4 % 2) (omega arith), b (2 * (2 * (2 * (2 * (2 * w)))) / 2 ^ 63 % 2) (w / 2 ^ 57 / 2 % 2) (omega arith), b (2 * (2 * (2 * (2 * (2 * (2 * w))))) / 2 ^ 63 % 2) (w / 2 ^ 57 % 2) (omega arith))

-- the first k bits that are shown, of at most seven
pub starts-seven : (w n k : ℕ) (s : List Bool) → k ≤ 7 → k ≤ n → Shows w n s → (t : List Bool) × (s ≡ take k (seven_bits (w / 2 ^ 57)) ++ t)
starts-seven w n k s h g shown =
    let e : n ≡ k + (n - k) = omega arith in
    let f : 7 ≡ k + (7 - k) = omega arith in
    let first : top_bits k w ≡ take k (seven_bits (w / 2 ^ 57)) =
    sym (ap (take k) (sym (top-seven w) ∙ ap (λ (i : ℕ). top_bits i w) f ∙ top-add k (7 - k) w) ∙ take_at (top_bits k w) (top_bits (7 - k) (w * 2 ^ k)) k (length-top k w)) in
    (top_bits (n - k) (w * 2 ^ k) ++ shown.rest, shown.starts ∙ ap (λ (i : ℕ). top_bits i w ++ shown.rest) e ∙ ap (λ (t : List Bool). t ++ shown.rest) (top-add k (n - k) w) ∙ append_assoc (top_bits k w) (top_bits (n - k) (w * 2 ^ k)) shown.rest ∙ ap (λ (t : List Bool). t ++ (top_bits (n - k) (w * 2 ^ k) ++ shown.rest)) first)

-- the first bit that is shown is 1
pub starts-one : (w n : ℕ) (s : List Bool) → 0 < n → 2 ^ 63 ≤ w → w < 2 ^ 64 → Shows w n s → (t : List Bool) × (s ≡ true ∷ t)
unfolding top_bits
starts-one w zero s h l u shown = absurd (omega arith)
starts-one w (suc n) s h l u shown =
    let e : w / 2 ^ 63 % 2 ≡ 1 = omega arith in
    (top_bits n (2 * w) ++ shown.rest, shown.starts ∙ ap (λ (x : ℕ). eqb x 1 ∷ top_bits n (2 * w) ++ shown.rest) e)

-- ---- bits that are passed
pub passed : (w n k : ℕ) (s : List Bool) → k ≤ n → Shows w n s → Shows (w * 2 ^ k % 2 ^ 64) (n - k) (drop k s)
passed w n k s h shown =
    let e : n ≡ k + (n - k) = omega arith in
    record {
      few = omega (arith, shown.few);
      rest = shown.rest;
      starts =
          ap (drop k) (shown.starts ∙ ap (λ (i : ℕ). top_bits i w ++ shown.rest) e ∙ ap (λ (t : List Bool). t ++ shown.rest) (top-add k (n - k) w) ∙ append_assoc (top_bits k w) (top_bits (n - k) (w * 2 ^ k)) shown.rest) ∙
          drop_at (top_bits k w) (top_bits (n - k) (w * 2 ^ k) ++ shown.rest) k (length-top k w) ∙
          ap (λ (t : List Bool). t ++ shown.rest) (top-mod (n - k) (w * 2 ^ k) (w * 2 ^ k % 2 ^ 64) (omega arith));
    }

-- ---- the 64 bits of eight bytes
-- a byte in front
pub shows-byte : (w n b v u : ℕ) (s t : List Bool) → n ≤ 56 → w ≡ b * 2 ^ 56 + v → u ≡ 256 * v → v < 2 ^ 56 → s ≡ byte_bits b ++ t → Shows u n t → Shows w (8 + n) s
shows-byte w n b v u s t q e d l f shown =
    let top : w / 2 ^ 56 ≡ b = omega arith in
    let below : w * 2 ^ 8 % 2 ^ 64 ≡ u % 2 ^ 64 = omega arith in
    record {
      few = omega arith;
      rest = shown.rest;
      starts =
          f ∙ ap (λ (x : List Bool). byte_bits b ++ x) shown.starts ∙
          sym (ap (λ (x : List Bool). x ++ shown.rest) (top-add 8 n w ∙ ap₂ (λ x y. x ++ y) (top_byte w ∙ ap byte_bits top) (top-mod n (w * 2 ^ 8) u below)));
    }

pub byte-here : (s : List ℕ) (i : ℕ) → i < length s → drop (8 * i) (bit_list s) ≡ byte_bits (get_or s i 0) ++ drop (8 * (i + 1)) (bit_list s)
unfolding bit_list
byte-here [] i h = absurd (omega arith)
byte-here (x ∷ xs) zero h = refl
byte-here (x ∷ xs) (suc i) h =
    let e : 8 * suc i ≡ suc (suc (suc (suc (suc (suc (suc (suc (8 * i)))))))) = omega arith in
    let f : 8 * (suc i + 1) ≡ suc (suc (suc (suc (suc (suc (suc (suc (8 * (i + 1))))))))) = omega arith in
    rw (e, f) (byte-here xs i (omega arith))

module _ (s : List ℕ) (i b₀ b₁ b₂ b₃ b₄ b₅ b₆ b₇ : ℕ) where
  byte : (k b : ℕ) → b ≡ get_or s (i + k) 0 → i + k < length s → drop (8 * (i + k)) (bit_list s) ≡ byte_bits b ++ drop (8 * (i + (k + 1))) (bit_list s)
  byte k b e h = let f : i + (k + 1) ≡ i + k + 1 = omega arith in rw (f, e) (byte-here s (i + k) h)

  abbrev word : ℕ
  word = (b₀ * 2 ^ 24 + b₁ * 2 ^ 16 + b₂ * 2 ^ 8 + b₃) * 2 ^ 32 + (b₄ * 2 ^ 24 + b₅ * 2 ^ 16 + b₆ * 2 ^ 8 + b₇)

  pub word-shows : (b₁ < 256) × (b₂ < 256) × (b₃ < 256) × (b₄ < 256) × (b₅ < 256) × (b₆ < 256) × (b₇ < 256)
      → b₀ ≡ get_or s i 0 → b₁ ≡ get_or s (i + 1) 0 → b₂ ≡ get_or s (i + 2) 0 → b₃ ≡ get_or s (i + 3) 0 → b₄ ≡ get_or s (i + 4) 0 → b₅ ≡ get_or s (i + 5) 0 → b₆ ≡ get_or s (i + 6) 0 → b₇ ≡ get_or s (i + 7) 0
      → i + 8 ≤ length s → Shows word 64 (drop (8 * i) (bit_list s))
  word-shows l e₀ e₁ e₂ e₃ e₄ e₅ e₆ e₇ h =
      let t₆ = b₆ * 2 ^ 8 + b₇ in
      let t₅ = b₅ * 2 ^ 16 + t₆ in
      let t₄ = b₄ * 2 ^ 24 + t₅ in
      let t₃ = b₃ * 2 ^ 32 + t₄ in
      let t₂ = b₂ * 2 ^ 40 + t₃ in
      let t₁ = b₁ * 2 ^ 48 + t₂ in
      let n₈ = shows-none 0 (drop (8 * (i + 8)) (bit_list s)) in
      let n₇ = shows-byte (b₇ * 2 ^ 56) 0 b₇ 0 0 _ _ (omega arith) (omega arith) (omega arith) (omega arith) (byte 7 b₇ e₇ (omega arith)) n₈ in
      let n₆ = shows-byte (t₆ * 2 ^ 48) 8 b₆ (b₇ * 2 ^ 48) (b₇ * 2 ^ 56) _ _ (omega arith) (omega arith) (omega arith) (omega arith) (byte 6 b₆ e₆ (omega arith)) n₇ in
      let n₅ = shows-byte (t₅ * 2 ^ 40) 16 b₅ (t₆ * 2 ^ 40) (t₆ * 2 ^ 48) _ _ (omega arith) (omega arith) (omega arith) (omega arith) (byte 5 b₅ e₅ (omega arith)) n₆ in
      let n₄ = shows-byte (t₄ * 2 ^ 32) 24 b₄ (t₅ * 2 ^ 32) (t₅ * 2 ^ 40) _ _ (omega arith) (omega arith) (omega arith) (omega arith) (byte 4 b₄ e₄ (omega arith)) n₅ in
      let n₃ = shows-byte (t₃ * 2 ^ 24) 32 b₃ (t₄ * 2 ^ 24) (t₄ * 2 ^ 32) _ _ (omega arith) (omega arith) (omega arith) (omega arith) (byte 3 b₃ e₃ (omega arith)) n₄ in
      let n₂ = shows-byte (t₂ * 2 ^ 16) 40 b₂ (t₃ * 2 ^ 16) (t₃ * 2 ^ 24) _ _ (omega arith) (omega arith) (omega arith) (omega arith) (byte 2 b₂ e₂ (omega arith)) n₃ in
      let n₁ = shows-byte (t₁ * 2 ^ 8) 48 b₁ (t₂ * 2 ^ 8) (t₂ * 2 ^ 16) _ _ (omega arith) (omega arith) (omega arith) (omega arith) (byte 1 b₁ e₁ (omega arith)) n₂ in
      shows-byte word 56 b₀ t₁ (t₁ * 2 ^ 8) _ _ (omega arith) (omega arith) (omega arith) (omega arith) (rw e₀ (byte-here s i (omega arith))) n₁

-- ---- a window made anew at a place
pub filled : (w p : ℕ) (bits : List Bool) → Shows w 64 (drop (8 * (p / 8)) bits) → Shows (w * 2 ^ (p % 8) % 2 ^ 64) (64 - p % 8) (drop p bits)
filled w p bits shown =
    let e : 8 * (p / 8) + p % 8 ≡ p = omega arith in
    subst (Shows (w * 2 ^ (p % 8) % 2 ^ 64) (64 - p % 8)) (drop-drop (p % 8) (8 * (p / 8)) bits ∙ ap (λ (k : ℕ). drop k bits) e) (passed w 64 (p % 8) (drop (8 * (p / 8)) bits) (omega arith) shown)
