-- Numbers of one byte each, which are written all at once.
-- Assumes nothing.
use mathlib.Core.Path.{◌≡◌, refl, sym, ap, ◌∙◌}
use mathlib.Core.Bool.{Bool, true, false, ◌&&◌}
use mathlib.Core.List.{List, [], ◌∷◌, map}
use mathlib.Core.Logic.{⊎_elim}
use Prim.Native.Nat.{ℕ, zero, suc, ◌+◌, ◌-◌, ◌*◌, ◌%◌, ◌≤◌, ◌<◌, min}
use native.Mathlib.Numerals.{add-one}
use native.Mathlib.Omega.{arith}
use borrow.Author.Tests.{leb-true, ltb-true, lt-ltb, le-ltb}
use lib.Dec.{leb, ltb}
use lib.IntN.{ℤ, pos, negsuc}
use lib.ListN.{length, get_or, take, set, length-map, get_or-map}
use lib.Seq.{sets, take-suc, length-take-le, get_or-take}
use Rattle.ints.specs.Z.{when◌then◌else◌}
use Rattle.number.specs.Number.{number}
use Rattle.number.specs.SignedNumber.{sent, signed_number}
use Rattle.number.proofs.Numbers.{lt-or-le, one-group}
use Rattle.record.specs.Write.{signed_numbers}
use Rattle.levels.proofs.Sets.{sets-append}
use Rattle.transcript.specs.Written.{Written}
use Rattle.transcript.specs.InnerSent.{held_of, sent_short, short_sent, Held}

-- ---- the test
pub both : (a b : Bool) → (a && b) ≡ true → (a ≡ true) × (b ≡ true)
both true b e = (refl, e)
both false b e = absurd (let z : ◌≡◌ {A = ℕ} 0 1 = cc in omega arith)

pub short-each : (t : List ℕ) (n : ℕ) → short_sent t n ≡ true → (k : ℕ) → k < n → (64 ≤ get_or t k 0) × (get_or t k 0 < 192)
unfolding short_sent
short-each t zero e k h = absurd (omega arith)
short-each t (suc n) e k h =
    let a = both (short_sent t n && leb 64 (get_or t n 0)) (ltb (get_or t n 0) 192) e in
    let b = both (short_sent t n) (leb 64 (get_or t n 0)) a.0 in
    ⊎_elim
    (λ (i : k < n). short-each t n b.0 k i)
    (λ (i : n ≤ k).
    let j : k ≡ n = omega arith in
    rw j (leb-true 64 (get_or t n 0) b.1, ltb-true (get_or t n 0) 192 a.1))
    (lt-or-le k n)

-- ---- what they are sent as
short-sent : (z : ℤ) → 64 ≤ held_of z → held_of z < 192 → (sent_short (held_of z) < 128) × (sent_short (held_of z) ≡ sent z)
unfolding held_of sent_short sent when◌then◌else◌
short-sent (pos n) h k =
    let m : min n 127 ≡ n = omega arith in
    let r : (128 + n) % 128 ≡ n = omega arith in
    let l : 2 * n < 128 = omega arith in
    rw (m, r, lt-ltb (2 * n) 128 l) (l, refl)
short-sent (negsuc n) h k =
    let r : (127 - n) % 128 ≡ 127 - n = omega arith in
    let l : 128 ≤ 2 * (127 - n) = omega arith in
    rw (r, le-ltb (2 * (127 - n)) 128 l) (omega arith, omega arith)

-- ---- written
-- stored one after another
pub stored-turn : {A : Type 0} (d : A) (out : List A) (at : ℕ) (t : List A) (n : ℕ) → n < length t → set (sets out at (take n t)) (at + n) (get_or t n d) ≡ sets out at (take (n + 1) t)
stored-turn d out at t n h =
    let z : length (take n t) ≡ n = length-take-le n t (omega arith) in
    sym (rw (add-one n, take-suc t n d h) (sets-append out at (take n t) (get_or t n d ∷ []) ∙ rw z))

one_byte : (z : ℤ) (b : ℕ) → b < 128 → b ≡ sent z → signed_number z ≡ b ∷ []
unfolding signed_number number
one_byte z b h e = rw (← e) (one-group 4 b h)

-- the byte of each
pub sent-at : (t : List ℕ) (k : ℕ) → get_or (map sent_short t) k 0 ≡ sent_short (get_or t k 0)
unfolding sent_short when◌then◌else◌
sent-at t k = get_or-map sent_short t k 0

shorts : (zs : List ℤ) (bs : List ℕ) → length bs ≡ length zs → ((k : ℕ) → k < length zs → (get_or bs k 0 < 128) × (get_or bs k 0 ≡ sent (get_or zs k (pos 0)))) → signed_numbers zs ≡ bs
unfolding signed_numbers
shorts [] [] e h = refl
shorts [] (b ∷ bs) e h = absurd (omega arith)
shorts (z ∷ zs) [] e h = absurd (omega arith)
shorts (z ∷ zs) (b ∷ bs) e h =
    let o = h 0 (omega arith) in
    rw (one_byte z b o.0 o.1, shorts zs bs (omega arith) (λ k i. h (suc k) (omega arith)))

-- NUMBERS FROM -64 TO 63 ARE THE LIST OF WHAT THEY ARE SENT AS
module _ (l : List ℤ) (t : List ℕ) (m : length l ≤ 16) (s : Held l 0 (length l) t) where
  abbrev held : List ℕ
  held = take (length l) t

  held-length : length held ≡ length l
  held-length = length-take-le (length l) t (omega (arith, s.size))

  held-at : (k : ℕ) → k < length l → get_or held k 0 ≡ held_of (get_or l k (pos 0))
  held-at k h =
      let z : 0 + k ≡ k = omega arith in
      get_or-take (length l) t k 0 h ∙ s.each k h ∙ ap (λ (j : ℕ). held_of (get_or l j (pos 0))) z

  module _ (e : short_sent held (length held) ≡ true) where
    pub short-numbers : signed_numbers l ≡ map sent_short held
    short-numbers =
        shorts l (map sent_short held) (length-map held sent_short ∙ held-length) (λ k i.
        let r = short-each held (length held) e k (omega (arith, held-length)) in
        let h = held-at k i in
        let y = short-sent (get_or l k (pos 0)) (rw (← h) r.0) (rw (← h) r.1) in
        rw (sent-at held k, h) y)

    short-count : length (signed_numbers l) ≡ length held
    short-count = ap length short-numbers ∙ length-map held sent_short

    module _ (out : List ℕ) (at : ℕ) where
      pub short-fits : at + length (signed_numbers l) ≤ length out → at + length held ≤ length out
      short-fits k = omega (arith, short-count)

      pub short-written : {left : List ℕ} → left ≡ sets out at (map sent_short held) → Written out at (signed_numbers l) (at + length held) left
      short-written w = record { moved = omega (arith, short-count); leaves = w ∙ ap (sets out at) (sym short-numbers) }
