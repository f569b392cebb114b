-- The number form: groups of seven bits, lowest group first, the top bit of a byte set when another follows; shortest form only, below 2^32.
-- Assumes nothing.
use Rattle.std.specs.Prelude.{cond, ◌&&◌, List, [], ◌∷◌, ℕ, zero, suc, ◌+◌, ◌-◌, ◌*◌, ◌/◌, ◌%◌, ◌^◌, ◌<◌, ltb}
use Rattle.refusal.specs.Got.{Got, got, refused}
use Rattle.refusal.specs.declared.Refusal.TheVariants.{NumberForm}

-- the bytes of v, of which at most `room` follow the first
unfoldable pub groups : ℕ → ℕ → List ℕ
groups zero v = v ∷ []
groups (suc room) v = cond (ltb v 128) (v ∷ []) ((v % 128 + 128) ∷ groups room (v / 128))

-- the bytes of v
unfoldable pub number : ℕ → List ℕ
number v = groups 4 v

abbrev pub NumberRange : ℕ → Type 0
NumberRange v = v < 2 ^ 32

-- the group `low`, then a number: that is not 0, or the form would not be the shortest, and the value is in range
unfoldable pub low_then : ℕ → Got ℕ → Got ℕ
low_then low (got v n) = cond (ltb 0 v && ltb (low + 128 * v) (2 ^ 32)) (got (low + 128 * v) (suc n)) (refused NumberForm)
low_then low (refused r) = refused r

-- the number at the head of s. An element from 256 on is no byte
unfoldable pub read_number : List ℕ → Got ℕ
read_number [] = refused NumberForm
read_number (b ∷ s) = cond (ltb b 128) (got b 1) (cond (ltb b 256) (low_then (b - 128) (read_number s)) (refused NumberForm))
