-- Two signed codes in 32 bits, and what the answer for both says of each.
-- Assumes nothing.
use mathlib.Core.Path.{◌≡◌, refl, sym, ap, ap₂, subst, ◌∙◌}
use mathlib.Core.Bool.{Bool}
use mathlib.Core.Logic.{◌⊎◌, inl, inr}
use mathlib.Core.List.{List, [], ◌∷◌, ◌++◌, append_assoc}
use Prim.Native.Nat.{ℕ, ◌+◌, ◌-◌, ◌*◌, ◌/◌, ◌%◌, ◌^◌, ◌<◌, ◌≤◌}
use native.Mathlib.Nat.{mul_assoc, mul_comm}
use native.Mathlib.Omega.{arith}
use lib.Dec.{eqb}
use lib.IntN.{ℤ}
use lib.ListN.{length, get_or, drop}
use lib.Seq.{drop-drop}
use Rattle.refusal.specs.Got.{Got, got, refused, after, map_got}
use Rattle.refusal.specs.declared.Refusal.{Refusal}
use Rattle.bits.specs.Bits.{odd, byte_bits, bit_list}
use Rattle.bits.specs.Code.{code}
use Rattle.bits.specs.Signed.{signed_of, signed_code}
use Rattle.bits.specs.InnerStarts.{Begins}
use Rattle.bits.specs.InnerWindow.{top_bits, Shows}
use Rattle.std.specs.Prelude.{Result, Ok, Err}
use Rattle.refusal.specs.Answered.{answered}
use Rattle.refusal.proofs.Answered.{Answered, answered-got, answered-refused}
use Rattle.bits.specs.InnerPair.{signed_pair}
use Rattle.bits.proofs.Windows.{top-add, top_byte, passed, shows-none, shows-byte, byte-here}

-- ---- a word of 32 bits, as the upper half of one of 64
-- bits that are passed
pub passed-half : (w n k : ℕ) (s : List Bool) → k ≤ n → Shows (w * 2 ^ 32) n s → Shows (w * 2 ^ k % 2 ^ 32 * 2 ^ 32) (n - k) (drop k s)
passed-half w n k s h shown =
    let m : w * 2 ^ 32 * 2 ^ k ≡ w * 2 ^ k * 2 ^ 32 = mul_assoc w (2 ^ 32) (2 ^ k) ∙ ap (λ (x : ℕ). w * x) (mul_comm (2 ^ 32) (2 ^ k)) ∙ sym (mul_assoc w (2 ^ k) (2 ^ 32)) in
    let e : w * 2 ^ 32 * 2 ^ k % 2 ^ 64 ≡ w * 2 ^ k % 2 ^ 32 * 2 ^ 32 = ap (λ (x : ℕ). x % 2 ^ 64) m ∙ omega arith in
    subst (λ (x : ℕ). Shows x (n - k) (drop k s)) e (passed (w * 2 ^ 32) n k s h shown)

-- fewer bits are shown too
shows-fewer : (w n k : ℕ) (s : List Bool) → k ≤ n → Shows w n s → Shows w k s
shows-fewer w n k s h shown =
    let e : n ≡ k + (n - k) = omega arith in
    record {
      few = omega (arith, shown.few);
      rest = top_bits (n - k) (w * 2 ^ k) ++ shown.rest;
      starts = shown.starts ∙ ap (λ (i : ℕ). top_bits i w ++ shown.rest) e ∙ ap (λ (t : List Bool). t ++ shown.rest) (top-add k (n - k) w) ∙ append_assoc (top_bits k w) (top_bits (n - k) (w * 2 ^ k)) shown.rest;
    }

-- the highest nine
top-nine : (w : ℕ) → top_bits 9 (w * 2 ^ 32) ≡ byte_bits (w / 2 ^ 23 / 2) ++ odd (w / 2 ^ 23) ∷ []
unfolding top_bits
top-nine w =
    let b : w * 2 ^ 32 / 2 ^ 56 ≡ w / 2 ^ 23 / 2 = omega arith in
    let o : w * 2 ^ 32 * 2 ^ 8 / 2 ^ 63 % 2 ≡ w / 2 ^ 23 % 2 = omega arith in
    top-add 8 1 (w * 2 ^ 32) ∙ ap₂ (λ x y. x ++ y) (top_byte (w * 2 ^ 32) ∙ ap byte_bits b) (ap (λ (k : ℕ). eqb k 1 ∷ []) o)

starts-nine : (w n : ℕ) (s : List Bool) → 9 ≤ n → Shows (w * 2 ^ 32) n s → (t : List Bool) × (s ≡ byte_bits (w / 2 ^ 23 / 2) ++ odd (w / 2 ^ 23) ∷ t)
starts-nine w n s h shown =
    let f = shows-fewer (w * 2 ^ 32) n 9 s h shown in
    (f.rest, f.starts ∙ ap (λ (t : List Bool). t ++ f.rest) (top-nine w))

-- the signed code there
pub signed-here : (w n before head : ℕ) (s : List Bool) → 9 ≤ n → Shows (w * 2 ^ 32) n s → Begins (w / 2 ^ 23) before head → before < 10 → signed_code s ≡ got (signed_of (head - 1)) (before + 1)
unfolding signed_code
signed-here w n before head s h shown says l =
    let b = starts-nine w n s h shown in
    ap (map_got signed_of) (ap code b.1 ∙ says.ends l b.0)

-- four bytes
module _ (s : List ℕ) (i b₀ b₁ b₂ b₃ : ℕ) where
  byte : (k b : ℕ) → b ≡ get_or s (i + k) 0 → i + k < length s → drop (8 * (i + k)) (bit_list s) ≡ byte_bits b ++ drop (8 * (i + (k + 1))) (bit_list s)
  byte k b e h = let f : i + (k + 1) ≡ i + k + 1 = omega arith in rw (f, e) (byte-here s (i + k) h)

  pub four-shows : (b₁ < 256) × (b₂ < 256) × (b₃ < 256) → b₀ ≡ get_or s i 0 → b₁ ≡ get_or s (i + 1) 0 → b₂ ≡ get_or s (i + 2) 0 → b₃ ≡ get_or s (i + 3) 0
      → i + 4 ≤ length s → Shows ((b₀ * 2 ^ 24 + b₁ * 2 ^ 16 + b₂ * 2 ^ 8 + b₃) * 2 ^ 32) 32 (drop (8 * i) (bit_list s))
  four-shows l e₀ e₁ e₂ e₃ h =
      let t₂ = b₂ * 2 ^ 8 + b₃ in
      let t₁ = b₁ * 2 ^ 16 + t₂ in
      let n₄ = shows-none 0 (drop (8 * (i + 4)) (bit_list s)) in
      let n₃ = shows-byte (b₃ * 2 ^ 56) 0 b₃ 0 0 _ _ (omega arith) (omega arith) (omega arith) (omega arith) (byte 3 b₃ e₃ (omega arith)) n₄ in
      let n₂ = shows-byte (t₂ * 2 ^ 48) 8 b₂ (b₃ * 2 ^ 48) (b₃ * 2 ^ 56) _ _ (omega arith) (omega arith) (omega arith) (omega arith) (byte 2 b₂ e₂ (omega arith)) n₃ in
      let n₁ = shows-byte (t₁ * 2 ^ 40) 16 b₁ (t₂ * 2 ^ 40) (t₂ * 2 ^ 48) _ _ (omega arith) (omega arith) (omega arith) (omega arith) (byte 1 b₁ e₁ (omega arith)) n₂ in
      shows-byte ((b₀ * 2 ^ 24 + b₁ * 2 ^ 16 + b₂ * 2 ^ 8 + b₃) * 2 ^ 32) 24 b₀ (t₁ * 2 ^ 32) (t₁ * 2 ^ 40) _ _ (omega arith) (omega arith) (omega arith) (omega arith) (rw e₀ (byte-here s i (omega arith))) n₁

-- from a place on
pub here-shows : (w p : ℕ) (bits : List Bool) → Shows (w * 2 ^ 32) 32 (drop (8 * (p / 8)) bits) → Shows (w * 2 ^ (p % 8) % 2 ^ 32 * 2 ^ 32) 25 (drop p bits)
here-shows w p bits shown =
    let e : 8 * (p / 8) + p % 8 ≡ p = omega arith in
    shows-fewer (w * 2 ^ (p % 8) % 2 ^ 32 * 2 ^ 32) (32 - p % 8) 25 (drop p bits) (omega arith)
    (subst (Shows (w * 2 ^ (p % 8) % 2 ^ 32 * 2 ^ 32) (32 - p % 8)) (drop-drop (p % 8) (8 * (p / 8)) bits ∙ ap (λ (k : ℕ). drop k bits) e) (passed-half w 32 (p % 8) (drop (8 * (p / 8)) bits) (omega arith) shown))

-- ---- the answer for both, from each
abbrev pub signed_at : List Bool → ℕ → Result (ℤ × ℕ) Refusal
signed_at s at = answered at (signed_code (drop at s))

module _ (s : List Bool) (at : ℕ) where
  abbrev pub both : Result ((ℤ × ℤ) × ℕ) Refusal
  both = answered at (signed_pair (drop at s))

  -- the second one, behind a first one of n bits
  abbrev pub behind : ℤ → ℕ → Got ℤ → Result ((ℤ × ℤ) × ℕ) Refusal
  behind y n g = answered at (after n (map_got (λ x. (y, x)) g))

  first-got : (y : ℤ) (n : ℕ) → signed_code (drop at s) ≡ got y n → both ≡ behind y n (signed_code (drop (at + n) s))
  unfolding signed_pair
  first-got y n e = rw e (ap (λ (t : List Bool). behind y n (signed_code t)) (drop-drop n at s))

  -- two codes that were found
  pub pair_found : (n m : ℕ) (y x : ℤ) → signed_code (drop at s) ≡ got y n → signed_code (drop n (drop at s)) ≡ got x m → Ok ((y, x), at + (n + m)) ≡ both
  pair_found n m y x e f = sym (first-got y n e ∙ ap (behind y n) (ap signed_code (sym (drop-drop n at s)) ∙ f))

  pub pair_is : (y x : ℤ) (p next : ℕ) → Ok (y, p) ≡ signed_at s at → Ok (x, next) ≡ signed_at s p → Ok ((y, x), next) ≡ both
  pair_is y x p next e f = go (answered-got at _ y p e) (answered-got p _ x next f)
    where
      go : Answered at (signed_code (drop at s)) y p → Answered p (signed_code (drop p s)) x next → Ok ((y, x), next) ≡ both
      go a b =
          let h : signed_code (drop (at + a.taken) s) ≡ got x b.taken = ap (λ (q : ℕ). signed_code (drop q s)) (sym a.moved) ∙ b.is in
          let k : next ≡ at + (a.taken + b.taken) = omega (arith, a.moved, b.moved) in
          ap (λ (q : ℕ). Ok ((y, x), q)) k ∙ sym (first-got y a.taken a.is ∙ ap (behind y a.taken) h)

  pub pair-first : (r : Refusal) → Err r ≡ signed_at s at → Err r ≡ both
  unfolding signed_pair
  pair-first r e = rw (answered-refused at (signed_code (drop at s)) r e)

  pub pair-second : (y : ℤ) (p : ℕ) (r : Refusal) → Ok (y, p) ≡ signed_at s at → Err r ≡ signed_at s p → Err r ≡ both
  pair-second y p r e f = go (answered-got at _ y p e)
    where
      go : Answered at (signed_code (drop at s)) y p → Err r ≡ both
      go a =
          let h : signed_code (drop (at + a.taken) s) ≡ refused r = ap (λ (q : ℕ). signed_code (drop q s)) (sym a.moved) ∙ answered-refused p (signed_code (drop p s)) r f in
          sym (first-got y a.taken a.is ∙ ap (behind y a.taken) h)

-- ---- and each from it
pub record Both (s : List Bool) (at : ℕ) (y x : ℤ) (next : ℕ) : Type 0 where
  pub between : ℕ
  pub first : Ok (y, between) ≡ signed_at s at
  pub second : Ok (x, next) ≡ signed_at s between

-- a refusal is the first one's or the second one's
pub record Behind (s : List Bool) (at : ℕ) (r : Refusal) : Type 0 where
  pub value : ℤ
  pub between : ℕ
  pub first : Ok (value, between) ≡ signed_at s at
  pub second : Err r ≡ signed_at s between

module _ (s : List Bool) (at : ℕ) where
  pub pair_read_lem : (y x : ℤ) (next : ℕ) → Ok ((y, x), next) ≡ both s at → Both s at y x next
  pair_read_lem y x next e = one (signed_code (drop at s)) refl
    where
      two : (v : ℤ) (n : ℕ) → signed_code (drop at s) ≡ got v n → (g : Got ℤ) → signed_code (drop (at + n) s) ≡ g → Ok ((y, x), next) ≡ behind s at v n g → Both s at y x next
      two v n f (got z m) h k =
          let p : ((y, x), next) ≡ ((v, z), at + (n + m)) = cc in
          let same : y ≡ v = ap (λ (q : (ℤ × ℤ) × ℕ). q.0.0) p in
          let other : x ≡ z = ap (λ (q : (ℤ × ℤ) × ℕ). q.0.1) p in
          let end : next ≡ at + n + m = ap (λ (q : (ℤ × ℤ) × ℕ). q.1) p ∙ omega arith in
          record {
            between = at + n;
            first = ap (λ (t : ℤ). Ok (t, at + n)) same ∙ sym (ap (answered at) f);
            second = ap₂ (λ (t : ℤ) (q : ℕ). Ok (t, q)) other end ∙ sym (ap (answered (at + n)) h);
          }
      two v n f (refused q) h k = absurd (let z : ◌≡◌ {A = ℕ} 0 1 = cc in omega arith)

      one : (g : Got ℤ) → signed_code (drop at s) ≡ g → Both s at y x next
      one (got v n) f = two v n f (signed_code (drop (at + n) s)) refl (e ∙ first-got s at v n f)
      one (refused r) f = absurd (let k : Ok ((y, x), next) ≡ Err r = e ∙ sym (pair-first s at r (sym (ap (answered at) f))) in let z : ◌≡◌ {A = ℕ} 0 1 = cc in omega arith)

  pub pair-refused : (r : Refusal) → Err r ≡ both s at → (Err r ≡ signed_at s at) ⊎ Behind s at r
  pair-refused r e = one (signed_code (drop at s)) refl
    where
      two : (v : ℤ) (n : ℕ) → signed_code (drop at s) ≡ got v n → (g : Got ℤ) → signed_code (drop (at + n) s) ≡ g → Err r ≡ behind s at v n g → Behind s at r
      two v n f (got z m) h k = absurd (let z : ◌≡◌ {A = ℕ} 0 1 = cc in omega arith)
      two v n f (refused q) h k = record { value = v; between = at + n; first = sym (ap (answered at) f); second = ap Err (let i : r ≡ q = cc in i) ∙ sym (ap (answered (at + n)) h) }

      one : (g : Got ℤ) → signed_code (drop at s) ≡ g → (Err r ≡ signed_at s at) ⊎ Behind s at r
      one (got v n) f = inr (two v n f (signed_code (drop (at + n) s)) refl (e ∙ first-got s at v n f))
      one (refused q) f =
          let k : Err r ≡ Err q = e ∙ sym (pair-first s at q (sym (ap (answered at) f))) in
          inl (ap Err (let i : r ≡ q = cc in i) ∙ sym (ap (answered at) f))
