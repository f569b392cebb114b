-- A list of calls: three numbers each, column, row and mode. A list ends where its bytes end; 14 where a number is not in form, or the bytes end inside three numbers.
-- Assumes nothing.
use Rattle.std.specs.Prelude.{List, ℕ, length}
use Rattle.refusal.specs.Got.{Got, and_then, map_got}
use Rattle.number.specs.Number.{read_number}
use Rattle.refusal.specs.Until.{until_end}
use Rattle.state.specs.declared.Call.{Call}

-- the call at the head of s: its column, row and mode may have any value
unfoldable pub call_in : List ℕ → Got Call
call_in s =
    and_then (read_number s) s (λ column s₁.
    and_then (read_number s₁) s₁ (λ row s₂.
    map_got (λ mode. record { column = column; row = row; mode = mode }) (read_number s₂)))

unfoldable pub calls_in : ℕ → List ℕ → Got (List Call)
calls_in = until_end call_in

-- a call has a byte at least
unfoldable pub calls : List ℕ → Got (List Call)
calls s = calls_in (length s) s
