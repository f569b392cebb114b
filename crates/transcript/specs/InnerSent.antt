-- Short numbers, -64 to 63, which are sent as one byte each: contracts of inner functions.
-- Assumes nothing.
use Rattle.std.specs.Prelude.{◌≡◌, Bool, true, ◌&&◌, List, ℕ, zero, suc, ◌+◌, ◌-◌, ◌*◌, ◌%◌, ◌<◌, min, leb, ltb, ℤ, pos, negsuc, length, get_or}
use Rattle.ints.specs.Z.{when◌then◌else◌}

-- z held in -128 to 127, and counted from -128 on; `negsuc n` is -(n + 1)
unfoldable pub held_of : ℤ → ℕ
held_of (pos n) = 128 + min n 127
held_of (negsuc n) = 127 - n

-- what a short z is sent as, by `held_of z`
unfoldable pub sent_short : ℕ → ℕ
sent_short held = when ltb (2 * (held % 128)) 128 then 2 * (held % 128) else 255 - 2 * (held % 128)

-- each of the first n is `held_of` of a short number
unfoldable pub short_sent : List ℕ → ℕ → Bool
short_sent t zero = true
short_sent t (suc n) = (short_sent t n && leb 64 (get_or t n 0)) && ltb (get_or t n 0) 192

-- t has `held_of` of n numbers from `first` on
pub record Held (l : List ℤ) (first n : ℕ) (t : List ℕ) : Type 0 where
  pub size : length t ≡ 16
  pub each : (k : ℕ) → k < n → get_or t k 0 ≡ held_of (get_or l (first + k) (pos 0))
