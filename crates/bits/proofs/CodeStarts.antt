-- What a byte says of the code that starts there.
-- Assumes nothing.
use mathlib.Core.Path.{◌≡◌, refl, sym, ap, ◌∙◌}
use mathlib.Core.Bool.{Bool, true, false, cond, ◌&&◌}
use mathlib.Core.List.{List, [], ◌∷◌, ◌++◌}
use Prim.Native.Nat.{ℕ, ◌+◌, ◌-◌, ◌*◌, ◌/◌, ◌<◌}
use native.Mathlib.Omega.{arith}
use borrow.Author.Tests.{eqb-true, eqb-false}
use lib.Dec.{T, eqb, eqb→eq}
use lib.ListN.{drop}
use Rattle.refusal.specs.Got.{Got, got, refused, after}
use Rattle.bits.specs.Bits.{odd, byte_bits}
use Rattle.bits.specs.Code.{code_from, code, bit_value}
use Rattle.refusal.specs.Answered.{answered}
use Rattle.std.specs.Prelude.{Ok}
use Rattle.bits.specs.InnerStarts.{Short, Starts, Begins}
use Rattle.bits.proofs.Table.{both_left, both_right, every, at}
use Rattle.bits.proofs.CodeStep.{moved, value-le}

-- a 1 followed by data bits
abbrev one : Bool → ℕ
one d = 2 * 1 + bit_value d

abbrev two : Bool → Bool → ℕ
two d e = 2 * one d + bit_value e

abbrev three : Bool → Bool → Bool → ℕ
three d e f = 2 * two d e + bit_value f

abbrev four : Bool → Bool → Bool → Bool → ℕ
four d e f g = 2 * three d e f + bit_value g

-- ---- by the eight bits: the markers 0, 2, 4 and 6, and the data bits d, e, f and g between them
abbrev before : (m₀ m₂ m₄ m₆ : Bool) → ℕ
before m₀ m₂ m₄ m₆ = cond m₀ 0 (cond m₂ 2 (cond m₄ 4 (cond m₆ 6 8)))

abbrev head : (m₀ d m₂ e m₄ f m₆ g : Bool) → ℕ
head m₀ d m₂ e m₄ f m₆ g = cond m₀ 1 (cond m₂ (one d) (cond m₄ (two d e) (cond m₆ (three d e f) (four d e f g))))

eight : (g : Got ℕ) → after 2 (after 2 (after 2 (after 2 g))) ≡ after 8 g
eight (got k n) = ap (got k) (omega arith)
eight (refused r) = refl

module _ (rest : List Bool) where
  abbrev Says : ℕ → ℕ → List Bool → Type 0
  Says n m s = Short s n m × (n ≡ 8 → code s ≡ after 8 (code_from 27 m rest))

  says : (m₀ d m₂ e m₄ f m₆ g : Bool) → Says (before m₀ m₂ m₄ m₆) (head m₀ d m₂ e m₄ f m₆ g) (m₀ ∷ d ∷ m₂ ∷ e ∷ m₄ ∷ f ∷ m₆ ∷ g ∷ rest)
  unfolding code code_from
  says true d m₂ e m₄ f m₆ g = (record { within = omega arith; some = omega arith; small = omega arith; ends = λ h. refl }, λ h. absurd (omega arith))
  says false d true e m₄ f m₆ g = let a = value-le d in (record { within = omega arith; some = omega arith; small = omega arith; ends = λ h. refl }, λ h. absurd (omega arith))
  says false d false e true f m₆ g =
      let a = value-le d in
      let b = value-le e in
      (record { within = omega arith; some = omega arith; small = omega arith; ends = λ h. refl }, λ h. absurd (omega arith))
  says false d false e false f true g =
      let a = value-le d in
      let b = value-le e in
      let c = value-le f in
      (record { within = omega arith; some = omega arith; small = omega arith; ends = λ h. refl }, λ h. absurd (omega arith))
  says false d false e false f false g =
      let a = value-le d in
      let b = value-le e in
      let c = value-le f in
      let i = value-le g in
      (record { within = omega arith; some = omega arith; small = omega arith; ends = λ h. absurd (omega arith) }, λ h. eight (code_from 27 (four d e f g) rest))

-- ---- by the byte
abbrev before_of : ℕ → ℕ
before_of w = before (odd (w / 128)) (odd (w / 32)) (odd (w / 8)) (odd (w / 2))

abbrev head_of : ℕ → ℕ
head_of w = head (odd (w / 128)) (odd (w / 64)) (odd (w / 32)) (odd (w / 16)) (odd (w / 8)) (odd (w / 4)) (odd (w / 2)) (odd w)

byte-says : (w : ℕ) → Starts w (before_of w) (head_of w)
byte-says w = record { short = λ rest. (go rest).0; goes_on = λ h rest. (go rest).1 h }
  where
    go : (rest : List Bool) → Says rest (before_of w) (head_of w) (byte_bits w ++ rest)
    go rest = says rest (odd (w / 128)) (odd (w / 64)) (odd (w / 32)) (odd (w / 16)) (odd (w / 8)) (odd (w / 4)) (odd (w / 2)) (odd w)

-- ---- by nine bits
abbrev before_nine : ℕ → ℕ
before_nine w = cond (eqb (before_of (w / 2)) 8) (cond (odd w) 8 10) (before_of (w / 2))

abbrev head_nine : ℕ → ℕ
head_nine w = cond (eqb (before_of (w / 2)) 8) (cond (odd w) (head_of (w / 2)) (2 * head_of (w / 2))) (head_of (w / 2))

twice : (n : ℕ) → 2 * n / 2 ≡ n
twice n = omega arith

nine-says : (w : ℕ) → Begins w (before_nine w) (head_nine w)
unfolding code_from
nine-says w = go (eqb (before_of (w / 2)) 8) refl (odd w) refl
  where
    from : Starts (w / 2) (before_of (w / 2)) (head_of (w / 2))
    from = byte-says (w / 2)

    found : Short (byte_bits (w / 2) ++ []) (before_of (w / 2)) (head_of (w / 2))
    found = from.short []

    go : (t : Bool) → eqb (before_of (w / 2)) 8 ≡ t → (o : Bool) → odd w ≡ o → Begins w (cond t (cond o 8 10) (before_of (w / 2))) (cond t (cond o (head_of (w / 2)) (2 * head_of (w / 2))) (head_of (w / 2)))
    go true e true f =
        record {
          within = omega arith;
          some = found.some;
          more = λ h. absurd (omega arith);
          small = omega (arith, found.small);
          ends = λ h rest. ap (λ b. code (byte_bits (w / 2) ++ b ∷ rest)) f ∙ from.goes_on (eqb-true (before_of (w / 2)) 8 e) (true ∷ rest);
          goes_on = λ h. absurd (omega arith);
        }
    go true e false f =
        record {
          within = omega arith;
          some = omega (arith, found.some);
          more = λ h. omega (arith, found.some);
          small = omega (arith, found.small);
          ends = λ h. absurd (omega arith);
          goes_on = λ h rest. from.goes_on (eqb-true (before_of (w / 2)) 8 e) rest ∙ ap (λ (k : ℕ). after 8 (code_from 27 k rest)) (sym (twice (head_of (w / 2))));
        }
    go false e o f =
        let l : before_of (w / 2) < 8 = omega (arith, found.within, eqb-false (before_of (w / 2)) 8 e) in
        record {
          within = omega arith;
          some = found.some;
          more = λ h. absurd (omega arith);
          small = omega (arith, found.small);
          ends = λ h rest. (from.short (odd w ∷ rest)).ends l;
          goes_on = λ h. absurd (omega arith);
        }

-- two functions of nine bits that pass this test compute it
abbrev pub right : (ℕ → ℕ) → (ℕ → ℕ) → ℕ → Bool
right f g w = eqb (f w) (before_nine w) && eqb (g w) (head_nine w)

pub computed : (f g : ℕ → ℕ) → T (every (right f g) 512) → (w : ℕ) → w < 512 → Begins w (f w) (g w)
computed f g t w h =
    let a = at (right f g) 512 t w h in
    let x = eqb→eq (f w) (before_nine w) (both_left (eqb (f w) (before_nine w)) (eqb (g w) (head_nine w)) a) in
    let y = eqb→eq (g w) (head_nine w) (both_right (eqb (f w) (before_nine w)) (eqb (g w) (head_nine w)) a) in
    rw (x, y) (nine-says w)

-- ---- bits that start with these nine
module _ (bits : List Bool) (p w n m : ℕ) (begins : drop p bits ≡ byte_bits (w / 2) ++ drop (p + 8) bits) (says : Begins w n m) where
  -- a code that was found is the answer
  pub at_once : drop (p + 8) bits ≡ odd w ∷ drop (p + 9) bits → n < 10 → Ok (m - 1, p + n + 1) ≡ answered p (code (drop p bits))
  at_once ninth h =
      let e = begins ∙ ap (λ (t : List Bool). byte_bits (w / 2) ++ t) ninth in
      let r : p + n + 1 ≡ p + (n + 1) = omega arith in
      ap (λ (q : ℕ). Ok (m - 1, q)) r ∙ sym (ap (answered p) (ap code e ∙ says.ends h (drop (p + 9) bits)))

  pub later : n ≡ 10 → answered (p + 8) (code_from 27 (m / 2) (drop (p + 8) bits)) ≡ answered p (code (drop p bits))
  later h = sym (ap (λ s. answered p (code s)) begins ∙ ap (answered p) (says.goes_on h (drop (p + 8) bits)) ∙ moved p 8 (p + 8) (code_from 27 (m / 2) (drop (p + 8) bits)) refl)
