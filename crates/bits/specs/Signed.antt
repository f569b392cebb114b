-- The signed code: magnitude (k + 1) / 2 floored, positive for odd k.
-- Assumes nothing.
use Rattle.std.specs.Prelude.{Bool, cond, List, ℕ, suc, ◌+◌, ◌-◌, ◌*◌, ◌/◌, ◌^◌, ◌<◌, ℤ, pos, negsuc, neg_ℤ, nat_abs}
use Rattle.refusal.specs.Got.{Got, map_got}
use Rattle.bits.specs.Bits.{odd}
use Rattle.bits.specs.Code.{code, code_bits}

unfoldable pub signed_of : ℕ → ℤ
signed_of k = cond (odd k) (pos ((k + 1) / 2)) (neg_ℤ (pos ((k + 1) / 2)))

-- the code of a signed value: 2 z - 1 for positive z, else - 2 z
unfoldable pub code_of_signed : ℤ → ℕ
code_of_signed (pos a) = 2 * a - 1
code_of_signed (negsuc a) = 2 * suc a

unfoldable pub signed_code : List Bool → Got ℤ
signed_code s = map_got signed_of (code s)

unfoldable pub signed_bits : ℤ → List Bool
signed_bits z = code_bits (code_of_signed z)

-- from -(2^31 - 1) to 2^31 - 1
abbrev pub SignedRange : ℤ → Type 0
SignedRange z = nat_abs z < 2 ^ 31
