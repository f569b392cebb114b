-- Laws of the printer's lines: a byte, two digits and a number in decimal at a time, and how long a number is.
-- Assumes nothing.
use mathlib.Core.Path.{◌≡◌, refl, sym, ap, ◌∙◌}
use mathlib.Core.Bool.{Bool, true, false}
use mathlib.Core.List.{List, [], ◌∷◌, ◌++◌, append_assoc, append-nil}
use Prim.Native.Nat.{ℕ, zero, suc, ◌+◌, ◌*◌, ◌/◌, ◌%◌, ◌^◌, ◌≤◌, ◌<◌}
use native.Mathlib.Nat.{pow-succ'}
use native.Mathlib.Numerals.{add-one}
use native.Mathlib.Omega.{arith}
use borrow.Author.Tests.{lt-ltb, le-ltb, ltb-true, ltb-false}
use lib.Dec.{ltb, lit<}
use lib.ListN.{length, get_or, drop, set, length-append, drop_of_length-le}
use lib.Seq.{length-sets, drop-cons}
use Rattle.refusal.specs.Refusal.{number_of}
use Rattle.refusal.specs.declared.Refusal.{Refusal}
use Rattle.refusal.specs.declared.Refusal.TheVariants.{GridSize, StateLength, MissingReference, ReferenceLength, CallRange, QuantiserRange, BitPlace, TranscriptRoom, Truncated, BadBitWidth, InvalidFrameCode, InvalidQuantiser, LevelPosition, NumberForm, FieldRange}
use Rattle.levels.proofs.Turns.{when_true, when_false}
use Rattle.transcript.specs.Written.{Written}
use Rattle.transcript.proofs.Writing.{joined, written_on, Still, still-more, still-fits}
use Rattle.printing.specs.Text.{hex_digit, hex_bytes, hex_line, digits, decimal, line, count_line, bits_line, refused_line}

-- ---- one byte
pub written_one : (out : List ℕ) (p v : ℕ) → Written out p (v ∷ []) (p + 1) (set out p v)
written_one out p v = record { moved = refl; leaves = refl }

-- ---- two digits a byte
abbrev hex_of : ℕ → List ℕ
hex_of b = hex_digit (b / 16) ∷ hex_digit (b % 16) ∷ []

abbrev pub hex-from : List ℕ → ℕ → List ℕ
hex-from bytes i = line (hex_bytes (drop i bytes))

pub hex-all : (bytes : List ℕ) → hex-from bytes 0 ≡ hex_line bytes
unfolding hex_line line
hex-all bytes = refl

pub hex-none : (bytes : List ℕ) (i : ℕ) → length bytes ≤ i → hex-from bytes i ≡ 10 ∷ []
unfolding line hex_bytes
hex-none bytes i h = rw (drop_of_length-le bytes h)

module _ (bytes : List ℕ) (i : ℕ) (h : i < length bytes) {out₀ : List ℕ} {at p : ℕ} {out all : List ℕ} (s : Still out₀ at all out p (hex-from bytes i)) where
  first-hex : hex-from bytes i ≡ hex_of (get_or bytes i 0) ++ hex-from bytes (i + 1)
  unfolding line hex_bytes
  first-hex = rw (add-one i, drop-cons bytes i 0 h)

  pub hex-fits : at + length all ≤ length out₀ → p + 2 ≤ length out
  hex-fits k = still-fits s (hex_of (get_or bytes i 0)) (hex-from bytes (i + 1)) first-hex k

  pub hex-more : (x y : ℕ) → x ≡ hex_digit (get_or bytes i 0 / 16) → y ≡ hex_digit (get_or bytes i 0 % 16) → Still out₀ at all (set (set out p x) (p + 1) y) (p + 2) (hex-from bytes (i + 1))
  hex-more x y e f =
      still-more s {a = hex_of (get_or bytes i 0)} first-hex (record { moved = refl; leaves = rw (e, f, add-one p) })

-- ---- a number in decimal
module _ (turns n : ℕ) where
  digits-few : n < 10 → digits (suc turns) n ≡ (48 + n) ∷ []
  unfolding digits
  digits-few h = when_true (ltb n 10) _ _ (lt-ltb n 10 h)

  digits-many : 10 ≤ n → digits (suc turns) n ≡ digits turns (n / 10) ++ (48 + n % 10) ∷ []
  unfolding digits
  digits-many h = when_false (ltb n 10) _ _ (le-ltb n 10 h)

-- enough divisions give the same
digits-zero : (turns : ℕ) → digits turns 0 ≡ 48 ∷ []
unfolding digits
digits-zero zero = refl
digits-zero (suc turns) = digits-few turns 0 (omega arith)

digits-turn : (turns turns' n : ℕ) → n ≤ suc turns → n ≤ suc turns' → (n / 10 ≤ turns → n / 10 ≤ turns' → digits turns (n / 10) ≡ digits turns' (n / 10)) → (t : Bool) → ltb n 10 ≡ t → digits (suc turns) n ≡ digits (suc turns') n
digits-turn turns turns' n h k same true e = let l = ltb-true n 10 e in digits-few turns n l ∙ sym (digits-few turns' n l)
digits-turn turns turns' n h k same false e =
    let l = ltb-false n 10 e in
    digits-many turns n l ∙ ap (λ (ds : List ℕ). ds ++ (48 + n % 10) ∷ []) (same (omega arith) (omega arith)) ∙ sym (digits-many turns' n l)

digits_same : (turns turns' n : ℕ) → n ≤ turns → n ≤ turns' → digits turns n ≡ digits turns' n
digits_same zero turns' n h k = let z : n ≡ 0 = omega arith in rw z (digits-zero zero ∙ sym (digits-zero turns'))
digits_same (suc turns) zero n h k = let z : n ≡ 0 = omega arith in rw z (digits-zero (suc turns) ∙ sym (digits-zero zero))
digits_same (suc turns) (suc turns') n h k = digits-turn turns turns' n h k (λ i j. digits_same turns turns' (n / 10) i j) (ltb n 10) refl

decimal-few : (n : ℕ) → n < 10 → decimal n ≡ (48 + n) ∷ []
unfolding decimal
decimal-few n h = digits_same n (suc n) n (omega arith) (omega arith) ∙ digits-few n n h

decimal-many : (n : ℕ) → 10 ≤ n → decimal n ≡ decimal (n / 10) ++ (48 + n % 10) ∷ []
unfolding decimal
decimal-many n h =
    digits_same n (suc n) n (omega arith) (omega arith) ∙ digits-many n n h
    ∙ ap (λ (ds : List ℕ). ds ++ (48 + n % 10) ∷ []) (digits_same n (n / 10) (n / 10) (omega arith) (omega arith))

module _ (out : List ℕ) (at n : ℕ) where
  pub one-digit : n < 10 → Written out at (decimal n) (at + 1) (set out at (48 + n))
  one-digit h = rw (decimal-few n h) (written_one out at (48 + n))

  pub one-fits : n < 10 → at + length (decimal n) ≤ length out → at < length out
  one-fits h k = omega (arith, ap length (decimal-few n h))

  module _ (h : 10 ≤ n) where
    many-length : length (decimal n) ≡ length (decimal (n / 10)) + 1
    many-length = ap length (decimal-many n h) ∙ length-append (decimal (n / 10)) ((48 + n % 10) ∷ [])

    pub high_fits : at + length (decimal n) ≤ length out → at + length (decimal (n / 10)) ≤ length out
    high_fits k = omega (arith, many-length)

    module _ {p : ℕ} {mid : List ℕ} (w : Written out at (decimal (n / 10)) p mid) where
      pub low_fits : at + length (decimal n) ≤ length out → p < length mid
      low_fits k = omega (arith, many-length, w.moved, ap length w.leaves, length-sets out at (decimal (n / 10)))

      pub low_digit : Written out at (decimal n) (p + 1) (set mid p (48 + n % 10))
      low_digit = rw (decimal-many n h) (written_on w (written_one mid p (48 + n % 10)))

-- ---- a word, a number and the end of the line
pub count-parts : (word : List ℕ) (n : ℕ) → count_line word n ≡ joined (word ∷ decimal n ∷ (10 ∷ []) ∷ [])
unfolding count_line line
count-parts word n = append_assoc word (decimal n) (10 ∷ [])

pub three-parts : (a b c : List ℕ) → a ++ b ++ c ≡ joined (a ∷ b ∷ c ∷ [])
three-parts a b c = simp (append_assoc, append-nil)

-- nothing
pub written_none : (out : List ℕ) (at : ℕ) → Written out at [] at out
written_none out at = record { moved = omega arith; leaves = refl }

-- ---- how long a number is
length-turn : (turns n k : ℕ) → n < 10 ^ (k + 1) → ((j : ℕ) → n / 10 < 10 ^ (j + 1) → length (digits turns (n / 10)) ≤ j + 1) → (t : Bool) → ltb n 10 ≡ t → length (digits (suc turns) n) ≤ k + 1
length-turn turns n k h rest true e = omega (arith, ap length (digits-few turns n (ltb-true n 10 e)))
length-turn turns n zero h rest false e = absurd (omega (arith, ltb-false n 10 e))
length-turn turns n (suc k) h rest false e =
    let m : suc k + 1 ≡ suc (k + 1) = omega arith in
    let p : 10 ^ (suc k + 1) ≡ 10 * 10 ^ (k + 1) = ap (λ (j : ℕ). 10 ^ j) m ∙ pow-succ' 10 (k + 1) in
    let l = rest k (omega (arith, p)) in
    omega (arith, ap length (digits-many turns n (ltb-false n 10 e)) ∙ length-append (digits turns (n / 10)) ((48 + n % 10) ∷ []))

digits-length : (turns n k : ℕ) → n < 10 ^ (k + 1) → length (digits turns n) ≤ k + 1
unfolding digits
digits-length zero n k h = omega arith
digits-length (suc turns) n k h = length-turn turns n k h (λ j i. digits-length turns (n / 10) j i) (ltb n 10) refl

decimal-length : (n k : ℕ) → n < 10 ^ (k + 1) → length (decimal n) ≤ k + 1
unfolding decimal
decimal-length n k h = digits-length n n k h

pub line-length : (text : List ℕ) → length (line text) ≡ length text + 1
unfolding line
line-length text = length-append text (10 ∷ [])

-- `bits N`, N a machine number
pub bits-length : (n : ℕ) → n < 2 ^ 64 → length (bits_line n) ≤ 26
unfolding bits_line count_line
bits-length n h =
    let w : List ℕ = 98 ∷ 105 ∷ 116 ∷ 115 ∷ 32 ∷ [] in
    omega (arith, line-length (w ++ decimal n), length-append w (decimal n), decimal-length n 19 (omega arith))

number-most : (why : Refusal) → number_of why < 100
number-most GridSize = lit< tt
number-most StateLength = lit< tt
number-most MissingReference = lit< tt
number-most ReferenceLength = lit< tt
number-most CallRange = lit< tt
number-most QuantiserRange = lit< tt
number-most BitPlace = lit< tt
number-most TranscriptRoom = lit< tt
number-most Truncated = lit< tt
number-most (BadBitWidth n) = lit< tt
number-most (InvalidFrameCode code) = lit< tt
number-most (InvalidQuantiser q) = lit< tt
number-most (LevelPosition at) = lit< tt
number-most NumberForm = lit< tt
number-most FieldRange = lit< tt

pub refused-length : (why : Refusal) → length (refused_line why) ≤ 11
unfolding refused_line count_line
refused-length why =
    let w : List ℕ = 114 ∷ 101 ∷ 102 ∷ 117 ∷ 115 ∷ 101 ∷ 100 ∷ 32 ∷ [] in
    omega (arith, line-length (w ++ decimal (number_of why)), length-append w (decimal (number_of why)), decimal-length (number_of why) 1 (number-most why))

-- the same bytes
pub written_as : {out : List ℕ} {at : ℕ} {a b : List ℕ} {next : ℕ} {left : List ℕ} → a ≡ b → Written out at a next left → Written out at b next left
written_as e w = rw e at w

-- what is written to keeps its length
pub written-length : {out : List ℕ} {at : ℕ} {bytes : List ℕ} {next : ℕ} {left : List ℕ} → Written out at bytes next left → length left ≡ length out
written-length {out} {at} {bytes} w = ap length w.leaves ∙ length-sets out at bytes
