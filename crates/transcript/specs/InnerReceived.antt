-- Short numbers, which are one byte each, below 128: contracts of inner functions.
-- Assumes nothing.
use Rattle.std.specs.Prelude.{◌≡◌, Bool, true, ◌&&◌, List, ℕ, zero, suc, ◌+◌, ◌-◌, ◌<◌, leb, ltb, ℤ, pos, length, get_or}
use Rattle.number.specs.SignedNumber.{received}

-- each of n numbers from `at` on is below 128
unfoldable pub short_received : List ℕ → ℕ → ℕ → Bool
short_received l at zero = true
short_received l at (suc n) = short_received l at n && ltb (get_or l (at + n) 0) 128

-- there are sixteen numbers, the first of them `ahead` before `at`, each below 128
unfoldable pub short_at : List ℕ → ℕ → ℕ → Bool
short_at l at ahead = leb ahead at && (leb (at - ahead + 16) (length l) && short_received l (at - ahead) 16)

-- t has what n bytes from `at` on stand for, each by itself
pub record Received (l : List ℕ) (at n : ℕ) (t : List ℤ) : Type 0 where
  pub size : length t ≡ 16
  pub each : (k : ℕ) → k < n → get_or t k (pos 0) ≡ received (get_or l (at + k) 0)
