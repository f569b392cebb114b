-- A signed v is sent as 2 v, or - 2 v - 1 when negative.
-- Assumes nothing.
use Rattle.std.specs.Prelude.{cond, List, ℕ, ◌+◌, ◌*◌, ◌/◌, ◌%◌, ◌^◌, ◌<◌, eqb, ℤ, pos, negsuc}
use Rattle.std.specs.Int.Signed.{mag}
use Rattle.refusal.specs.Got.{Got, map_got}
use Rattle.number.specs.Number.{number, read_number}

-- `negsuc n` is -(n + 1)
unfoldable pub sent : ℤ → ℕ
sent (pos n) = 2 * n
sent (negsuc n) = 2 * n + 1

unfoldable pub received : ℕ → ℤ
received n = cond (eqb (n % 2) 1) (negsuc (n / 2)) (pos (n / 2))

-- the values of an i32: `mag z` is n both for n and for -(n + 1)
abbrev pub SignedNumberRange : ℤ → Type 0
SignedNumberRange z = mag z < 2 ^ 31

unfoldable pub signed_number : ℤ → List ℕ
signed_number z = number (sent z)

-- the signed number at the head of s
unfoldable pub read_signed : List ℕ → Got ℤ
read_signed s = map_got received (read_number s)
