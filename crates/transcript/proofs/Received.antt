-- Numbers of one byte each, which are read all at once.
-- Assumes nothing.
use mathlib.Core.Path.{◌≡◌, refl, sym, ap, ◌∙◌}
use mathlib.Core.Bool.{true, false, ◌&&◌}
use mathlib.Core.List.{List, [], ◌∷◌, ◌++◌, map}
use mathlib.Core.Logic.{⊎_elim}
use Prim.Native.Nat.{ℕ, zero, suc, ◌+◌, ◌-◌, ◌≤◌, ◌<◌}
use native.Mathlib.Omega.{arith}
use borrow.Author.Tests.{leb-true, ltb-true, le-leb, lt-leb}
use lib.Dec.{leb, ltb}
use lib.IntN.{ℤ, pos}
use lib.ListN.{length, get_or, take, drop, set, length-drop, length-map, take-append-drop, get_or-map}
use lib.Seq.{sets, length-take-le, set-set, set_comm, get_or-take, get_or-drop, ext_get_or}
use Rattle.refusal.specs.Got.{got, map_got}
use Rattle.number.specs.SignedNumber.{received, read_signed}
use Rattle.number.proofs.Numbers.{lt-or-le, read-last}
use Rattle.levels.specs.Levels.{zeros}
use Rattle.std.specs.Prelude.{Ok}
use Rattle.record.specs.Parse.{read_signeds}
use Rattle.levels.specs.InnerAnswers.{Left}
use Rattle.levels.proofs.ItemAnswers.{left_end}
use Rattle.transcript.proofs.Sent.{both}
use Rattle.transcript.specs.InnerReceived.{short_received, short_at, Received}

-- ---- the test
-- no bytes so far before, too few of them, and enough
pub short-before : (l : List ℕ) (at ahead : ℕ) → at < ahead → false ≡ short_at l at ahead
unfolding short_at
short-before l at ahead h = rw (lt-leb ahead at h)

pub short-beyond : (l : List ℕ) (at ahead : ℕ) → ahead ≤ at → length l < at - ahead + 16 → false ≡ short_at l at ahead
unfolding short_at
short-beyond l at ahead h k = rw (le-leb ahead at h, lt-leb (at - ahead + 16) (length l) k)

pub short-within : (l : List ℕ) (at ahead : ℕ) → ahead ≤ at → at - ahead + 16 ≤ length l → short_received l (at - ahead) 16 ≡ short_at l at ahead
unfolding short_at
short-within l at ahead h k = rw (le-leb ahead at h, le-leb (at - ahead + 16) (length l) k)

short-each : (l : List ℕ) (at n : ℕ) → short_received l at n ≡ true → (k : ℕ) → k < n → get_or l (at + k) 0 < 128
unfolding short_received
short-each l at zero e k h = absurd (omega arith)
short-each l at (suc n) e k h =
    let b = both (short_received l at n) (ltb (get_or l (at + n) 0) 128) e in
    ⊎_elim
    (λ (i : k < n). short-each l at n b.0 k i)
    (λ (i : n ≤ k).
    let j : k ≡ n = omega arith in
    rw j (ltb-true (get_or l (at + n) 0) 128 b.1))
    (lt-or-le k n)

-- ---- read
shorts-read : (bs rest : List ℕ) → ((k : ℕ) → k < length bs → get_or bs k 0 < 128) → read_signeds (length bs) (bs ++ rest) ≡ got (map received bs) (length bs)
unfolding read_signeds read_signed
shorts-read [] rest h = refl
shorts-read (b ∷ bs) rest h =
    let z : 1 + length bs ≡ suc (length bs) = omega arith in
    rw (read-last b (bs ++ rest) (h 0 (omega arith)), shorts-read bs rest (λ k i. h (suc k) (omega arith)))
    (ap (λ (n : ℕ). got (received b ∷ map received bs) n) z)

-- ---- stored
-- a place is set before or after those behind it
set_before : (l : List ℤ) (i at : ℕ) (v : ℤ) (vs : List ℤ) → i < at → set (sets l at vs) i v ≡ sets (set l i v) at vs
set_before l i at v [] h = refl
set_before l i at v (u ∷ vs) h =
    set_before (set l at u) i (suc at) v vs (omega arith) ∙ ap (λ (x : List ℤ). sets x (suc at) vs) (set_comm l at i u v (λ (x : at ≡ i). omega arith))

-- all of them
pub all-stored : (out : List ℤ) (first : ℕ) (t : List ℤ) (start : ℕ) → start ≡ 0 → sets out first t ≡ sets out first (zeros start ++ drop start t)
all-stored out first t start e = rw e

-- all but the first, which is 0
pub rest-stored : (out : List ℤ) (first : ℕ) (t : List ℤ) (start : ℕ) → start ≡ 1 → 0 < length t → set (sets out first t) first (pos 0) ≡ sets out first (zeros start ++ drop start t)
rest-stored out first [] start e h = absurd (omega arith)
rest-stored out first (v ∷ vs) start e h =
    rw e (set_before (set out first v) first (suc first) (pos 0) vs (omega arith) ∙ ap (λ (x : List ℤ). sets x (suc first) vs) (set-set out first v (pos 0)))

module _ (s : List ℕ) (at ahead : ℕ) (e : short_at s at ahead ≡ true) where
  tests : (leb ahead at ≡ true) × (leb (at - ahead + 16) (length s) ≡ true) × (short_received s (at - ahead) 16 ≡ true)
  unfolding short_at
  tests =
      let a = both (leb ahead at) (leb (at - ahead + 16) (length s) && short_received s (at - ahead) 16) e in
      let b = both (leb (at - ahead + 16) (length s)) (short_received s (at - ahead) 16) a.1 in
      (a.0, b.0, b.1)

  pub short-ahead : ahead ≤ at
  short-ahead = leb-true ahead at tests.0

  pub short-there : at - ahead + 16 ≤ length s
  short-there = leb-true (at - ahead + 16) (length s) tests.1

  module _ (m : ahead ≤ 1) where
    taken : length (take (16 - ahead) (drop at s)) ≡ 16 - ahead
    taken = length-take-le (16 - ahead) (drop at s) (omega (arith, length-drop at s, short-there, short-ahead))

    -- one of those behind `ahead`
    behind : (k : ℕ) → k < 16 - ahead → get_or (take (16 - ahead) (drop at s)) k 0 ≡ get_or s (at - ahead + (ahead + k)) 0
    behind k h =
        let z : at + k ≡ at - ahead + (ahead + k) = omega (arith, short-ahead) in
        get_or-take (16 - ahead) (drop at s) k 0 h ∙ get_or-drop at s k 0 ∙ ap (λ (n : ℕ). get_or s n 0) z

    -- SHORT NUMBERS ARE READ AS WHAT THEIR BYTES STAND FOR
    short-read : read_signeds (16 - ahead) (drop at s) ≡ got (map received (take (16 - ahead) (drop at s))) (16 - ahead)
    short-read =
        let r = shorts-read (take (16 - ahead) (drop at s)) (drop (16 - ahead) (drop at s)) (λ k i.
        let j : k < 16 - ahead = omega (arith, taken) in
        rw (behind k j) (short-each s (at - ahead) 16 tests.2 (ahead + k) (omega arith))) in
        rw (taken, take-append-drop) at r

    received_is : (t : List ℤ) → Received s (at - ahead) 16 t → map received (take (16 - ahead) (drop at s)) ≡ drop ahead t
    unfolding received
    received_is t r =
        let a : length (map received (take (16 - ahead) (drop at s))) ≡ 16 - ahead = length-map (take (16 - ahead) (drop at s)) received ∙ taken in
        ext_get_or (pos 0) (map received (take (16 - ahead) (drop at s))) (drop ahead t) (a ∙ omega (arith, length-drop ahead t, r.size)) (λ k i.
        let j : k < 16 - ahead = omega (arith, a) in
        get_or-map received (take (16 - ahead) (drop at s)) k 0 ∙ ap received (behind k j) ∙ sym (get_or-drop ahead t k (pos 0) ∙ r.each (ahead + k) (omega arith)))

    pub short-left : (ls : List ℤ) (place : ℕ) (t left : List ℤ) → Received s (at - ahead) 16 t → left ≡ sets ls place (zeros ahead ++ drop ahead t)
        → Left at (map_got (sets ls place) (map_got (λ zs. zeros ahead ++ zs) (read_signeds (16 - ahead) (drop at s)))) (Ok (at - ahead + 16)) left
    short-left ls place t left r w =
        left_end at (map_got (sets ls place) (map_got (λ zs. zeros ahead ++ zs) (read_signeds (16 - ahead) (drop at s)))) (at - ahead + 16) (16 - ahead) left
        (rw short-read (ap (λ (x : List ℤ). got x (16 - ahead)) (ap (λ (x : List ℤ). sets ls place (zeros ahead ++ x)) (received_is t r) ∙ sym w)))
        (omega (arith, short-ahead))
