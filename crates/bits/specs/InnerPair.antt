-- Two signed codes, one after the other.
-- Assumes nothing.
use Rattle.std.specs.Prelude.{Bool, List, ℤ}
use Rattle.refusal.specs.Got.{Got, and_then, map_got}
use Rattle.bits.specs.Signed.{signed_code}

unfoldable pub signed_pair : List Bool → Got (ℤ × ℤ)
signed_pair s = and_then (signed_code s) s (λ y rest. map_got (λ x. (y, x)) (signed_code rest))
