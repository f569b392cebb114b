-- The number form is a format: what is written is read back, what is read was written, and no number's bytes begin another's.
-- Assumes nothing.
use mathlib.Core.Path.{◌≡◌, refl, sym, ap, ◌∙◌}
use mathlib.Core.Bool.{Bool, true, false, cond}
use mathlib.Core.List.{List, [], ◌∷◌, ◌++◌}
use mathlib.Core.Logic.{⊎_elim, ◌⊎◌, inl, inr}
use Prim.Native.Nat.{ℕ, zero, suc, ◌+◌, ◌-◌, ◌*◌, ◌/◌, ◌%◌, ◌^◌, ◌<◌, ◌≤◌}
use native.Mathlib.Nat.{pow-succ'}
use native.Mathlib.Omega.{arith}
use borrow.Author.Tests.{lt-ltb, le-ltb, ltb-true, ltb-false}
use lib.Dec.{ltb, lit<}
use lib.ListN.{length}
use Rattle.refusal.specs.Got.{Got, got, refused}
use Rattle.refusal.specs.Format.{Came, Format}
use Rattle.refusal.specs.declared.Refusal.{Refusal}
use Rattle.refusal.specs.declared.Refusal.TheVariants.{NumberForm}
use Rattle.refusal.proofs.Formats.{injective, never, got-value, got-count}
use Rattle.number.specs.Number.{groups, number, NumberRange, low_then, read_number}

pub lt-or-le : (a b : ℕ) → (a < b) ⊎ (b ≤ a)
lt-or-le a b = go (ltb a b) refl
  where
    go : (t : Bool) → ltb a b ≡ t → (a < b) ⊎ (b ≤ a)
    go true e = inl (ltb-true a b e)
    go false e = inr (ltb-false a b e)

pub zero-or-more : (v : ℕ) → (v ≡ 0) ⊎ (0 < v)
zero-or-more v = ⊎_elim (λ (z : 0 < v). inr z) (λ (z : v ≤ 0). inl (omega arith)) (lt-or-le 0 v)

-- ---- the bytes of a number
pub one-group : (room v : ℕ) → v < 128 → groups room v ≡ v ∷ []
unfolding groups
one-group zero v h = refl
one-group (suc room) v h = rw (lt-ltb v 128 h)

pub more-groups : (room v : ℕ) → 128 ≤ v → groups (suc room) v ≡ (v % 128 + 128) ∷ groups room (v / 128)
unfolding groups
more-groups room v h = rw (le-ltb v 128 h)

-- one group written, and what is left for the others
pub writes-on : (room v : ℕ) → 128 ≤ v → v < 16 * 128 ^ room → (groups room v ≡ (v % 128 + 128) ∷ groups (room - 1) (v / 128)) × (v / 128 < 16 * 128 ^ (room - 1)) × (0 < room)
writes-on zero v h k = absurd (omega arith)
writes-on (suc room) v h k =
    let one : suc room - 1 ≡ room = omega arith in
    let k' = rw (pow-succ' 128 room) at k in
    (rw one (more-groups room v h), rw one (omega (arith, k')), omega arith)

-- room that is not needed makes no difference
spare : (room v : ℕ) → v < 128 ^ suc room → groups room v ≡ groups (suc room) v
spare zero v h = one-group 0 v h ∙ sym (one-group 1 v h)
spare (suc room) v h = ⊎_elim
    (λ (l : v < 128). one-group (suc room) v l ∙ sym (one-group (suc (suc room)) v l))
    (λ (l : 128 ≤ v).
    let k = rw (pow-succ' 128 (suc room)) at h in
    rw (more-groups room v l, more-groups (suc room) v l, spare room (v / 128) (omega arith)))
    (lt-or-le v 128)

-- ---- one step of reading
pub low-then : (low v n : ℕ) → 0 < v → low + 128 * v < 2 ^ 32 → low_then low (got v n) ≡ got (low + 128 * v) (suc n)
unfolding low_then
low-then low v n z h = rw (lt-ltb 0 v z, lt-ltb (low + 128 * v) (2 ^ 32) h)

pub low-zero : (low n : ℕ) → low_then low (got 0 n) ≡ refused NumberForm
unfolding low_then
low-zero low n = refl

pub low-large : (low v n : ℕ) → 0 < v → 2 ^ 32 ≤ low + 128 * v → low_then low (got v n) ≡ refused NumberForm
unfolding low_then
low-large low v n z h = rw (lt-ltb 0 v z, le-ltb (low + 128 * v) (2 ^ 32) h)

pub low-refused : (low : ℕ) (r : Refusal) → low_then low (refused r) ≡ refused r
unfolding low_then
low-refused low r = refl

pub read-end : read_number [] ≡ refused NumberForm
unfolding read_number
read-end = refl

pub read-last : (b : ℕ) (s : List ℕ) → b < 128 → read_number (b ∷ s) ≡ got b 1
unfolding read_number
read-last b s h = rw (lt-ltb b 128 h)

pub read_more : (b : ℕ) (s : List ℕ) → 128 ≤ b → b < 256 → read_number (b ∷ s) ≡ low_then (b - 128) (read_number s)
unfolding read_number
read_more b s h k = rw (le-ltb b 128 h, lt-ltb b 256 k)

no_byte : (b : ℕ) (s : List ℕ) → 256 ≤ b → read_number (b ∷ s) ≡ refused NumberForm
unfolding read_number
no_byte b s h =
    let k : 128 ≤ b = omega arith in
    rw (le-ltb b 128 k, le-ltb b 256 h)

-- ---- what is written is read
reads-one : (room v : ℕ) (rest : List ℕ) → v < 128 → read_number (groups room v ++ rest) ≡ got v (length (groups room v))
reads-one room v rest l = rw (one-group room v l, read-last v rest l)

reads : (room v : ℕ) (rest : List ℕ) → v < 2 ^ 32 → v < 128 ^ suc room → read_number (groups room v ++ rest) ≡ got v (length (groups room v))
reads zero v rest h k = reads-one zero v rest k
reads (suc room) v rest h k = ⊎_elim
    (λ (l : v < 128). reads-one (suc room) v rest l)
    (λ (l : 128 ≤ v).
    let k' = rw (pow-succ' 128 (suc room)) at k in
    let t = groups room (v / 128) ++ rest in
    let low : v % 128 + 128 - 128 ≡ v % 128 = omega arith in
    let all : v % 128 + 128 * (v / 128) ≡ v = omega arith in
    rw (more-groups room v l, read_more (v % 128 + 128) t (omega arith) (omega arith), reads room (v / 128) rest (omega arith) (omega arith), low)
    (low-then (v % 128) (v / 128) (length (groups room (v / 128))) (omega arith) (omega arith) ∙ ap (λ (w : ℕ). got w (suc (length (groups room (v / 128))))) all))
    (lt-or-le v 128)

-- ---- what is read was written
-- a group, and the number behind it that was read
higher : (b : ℕ) (t : List ℕ) (v m x n : ℕ) → 128 ≤ b → b < 256 → Came number NumberRange t v m → low_then (b - 128) (got v m) ≡ got x n
    → Came number NumberRange (b ∷ t) x n
unfolding number
higher b t v m x n l k c e = ⊎_elim zero-top (λ z. ⊎_elim (in_range z) (λ h. never (sym (low-large (b - 128) v m z h) ∙ e)) (lt-or-le (b - 128 + 128 * v) (2 ^ 32))) (zero-or-more v)
  where
    zero-top : v ≡ 0 → Came number NumberRange (b ∷ t) x n
    zero-top z = never (sym (low-zero (b - 128) m) ∙ ap (λ (w : ℕ). low_then (b - 128) (got w m)) (sym z) ∙ e)

    in_range : 0 < v → b - 128 + 128 * v < 2 ^ 32 → Came number NumberRange (b ∷ t) x n
    in_range z h =
        let g : got (b - 128 + 128 * v) (suc m) ≡ got x n = sym (low-then (b - 128) v m z h) ∙ e in
        let is : b - 128 + 128 * v ≡ x = got-value g in
        let low : x % 128 + 128 ≡ b = omega arith in
        let high : x / 128 ≡ v = omega arith in
        let bytes : groups 4 x ≡ b ∷ groups 4 v = more-groups 3 x (omega arith) ∙ rw (low, high, spare 3 v (omega arith)) in
        record {
          in_range = omega arith;
          starts = record { rest = c.starts.rest; is = rw bytes (ap (λ (s : List ℕ). b ∷ s) c.starts.is) };
          taken = rw bytes (sym (got-count g) ∙ ap suc c.taken);
        }

came-head : (b : ℕ) (t : List ℕ) (x n : ℕ) → ((v m : ℕ) → read_number t ≡ got v m → Came number NumberRange t v m) → read_number (b ∷ t) ≡ got x n
    → Came number NumberRange (b ∷ t) x n
unfolding number
came-head b t x n tail e = ⊎_elim last (λ h. ⊎_elim (more h (read_number t) refl) (λ k. never (sym (no_byte b t k) ∙ e)) (lt-or-le b 256)) (lt-or-le b 128)
  where
    last : b < 128 → Came number NumberRange (b ∷ t) x n
    last h =
        let g : got b 1 ≡ got x n = sym (read-last b t h) ∙ e in
        let is : b ≡ x = got-value g in
        let bytes : groups 4 x ≡ b ∷ [] = one-group 4 x (omega arith) ∙ rw is in
        record { in_range = omega arith; starts = record { rest = t; is = rw bytes }; taken = rw bytes (sym (got-count g)) }

    more : 128 ≤ b → (a : Got ℕ) → read_number t ≡ a → b < 256 → Came number NumberRange (b ∷ t) x n
    more h (got v m) r k = higher b t v m x n h k (tail v m r) (ap (low_then (b - 128)) (sym r) ∙ sym (read_more b t h k) ∙ e)
    more h (refused q) r k = never (sym (low-refused (b - 128) q) ∙ ap (low_then (b - 128)) (sym r) ∙ sym (read_more b t h k) ∙ e)

came : (s : List ℕ) (x n : ℕ) → read_number s ≡ got x n → Came number NumberRange s x n
came [] x n e = never (sym read-end ∙ e)
came (b ∷ t) x n e = came-head b t x n (λ v m. came t v m) e

-- NUMBER FORM
pub number-format : Format read_number number NumberRange
unfolding number
number-format = record { reads = λ v rest h. reads 4 v rest h (omega arith); came = came }

-- no number's bytes begin another's
pub unique : (v w : ℕ) (s t : List ℕ) → NumberRange v → NumberRange w → number v ++ s ≡ number w ++ t → (v ≡ w) × (s ≡ t)
unique = injective number-format

-- what is no number is refused as 14
pub refused-form : (s : List ℕ) (r : Refusal) → read_number s ≡ refused r → r ≡ NumberForm
refused-form [] r e = cc read-end
refused-form (b ∷ t) r e =
    let tail : (q : Refusal) → read_number t ≡ refused q → q ≡ NumberForm = λ q. refused-form t q in
    ⊎_elim (λ l. never (sym e ∙ read-last b t l)) (λ l. ⊎_elim (λ k. below (read_number t) refl tail (sym (read_more b t l k) ∙ e)) (λ k. cc (no_byte b t k)) (lt-or-le b 256)) (lt-or-le b 128)
  where
    made : (v m : ℕ) → low_then (b - 128) (got v m) ≡ refused r → r ≡ NumberForm
    made v m h = ⊎_elim
        (λ (z : v ≡ 0). cc (low-zero (b - 128) m))
        (λ (z : 0 < v). ⊎_elim (λ l. never (sym h ∙ low-then (b - 128) v m z l)) (λ l. cc (low-large (b - 128) v m z l)) (lt-or-le (b - 128 + 128 * v) (2 ^ 32)))
        (zero-or-more v)

    below : (a : Got ℕ) → read_number t ≡ a → ((q : Refusal) → read_number t ≡ refused q → q ≡ NumberForm) → low_then (b - 128) (read_number t) ≡ refused r → r ≡ NumberForm
    below (got v m) h tail e = made v m (ap (low_then (b - 128)) (sym h) ∙ e)
    below (refused q) h tail e =
        let f = tail q h in
        let g : low_then (b - 128) (refused q) ≡ refused r = ap (low_then (b - 128)) (sym h) ∙ e in
        cc (low-refused (b - 128) q)

-- ---- how long a number is
pub some_bytes : (room v : ℕ) → (1 ≤ length (groups room v)) × (length (groups room v) ≤ suc room)
unfolding groups
some_bytes zero v = (lit< tt, lit< tt)
some_bytes (suc room) v = go (ltb v 128) (some_bytes room (v / 128))
  where
    go : (t : Bool) → (1 ≤ length (groups room (v / 128))) × (length (groups room (v / 128)) ≤ suc room)
        → (1 ≤ length (cond t (v ∷ []) ((v % 128 + 128) ∷ groups room (v / 128)))) × (length (cond t (v ∷ []) ((v % 128 + 128) ∷ groups room (v / 128))) ≤ suc (suc room))
    go true h = (omega arith, omega arith)
    go false h = (omega arith, omega arith)

pub number-length : (v : ℕ) → (1 ≤ length (number v)) × (length (number v) ≤ 5)
unfolding number
number-length v = some_bytes 4 v

pub one_byte : (v : ℕ) → v < 128 → length (number v) ≡ 1
unfolding number
one_byte v h = ap length (one-group 4 v h)
