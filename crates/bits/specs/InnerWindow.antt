-- A word that shows the bits from a place on. Contracts inside the readers cite it; no answer of an entry rests on it.
-- Assumes nothing.
use Rattle.std.specs.Prelude.{◌≡◌, Bool, List, [], ◌∷◌, ◌++◌, ℕ, zero, suc, ◌*◌, ◌/◌, ◌^◌, ◌≤◌}
use Rattle.bits.specs.Bits.{odd}

-- the n highest of the 64 bits of w, highest first
unfoldable pub top_bits : ℕ → ℕ → List Bool
top_bits zero w = []
top_bits (suc n) w = odd (w / 2 ^ 63) ∷ top_bits n (2 * w)

-- s starts with the n highest bits of w
pub record Shows (w n : ℕ) (s : List Bool) : Type 0 where
  pub few : n ≤ 64
  pub rest : List Bool
  pub starts : s ≡ top_bits n w ++ rest
