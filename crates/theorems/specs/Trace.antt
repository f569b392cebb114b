-- The records that a run's accepted calls read, one after another, from the bits at its first call's place on.
-- Assumes nothing.
use Rattle.std.specs.Prelude.{◌≡◌, Bool, List, [], ◌∷◌, ◌++◌, ℕ, ◌+◌, ◌≤◌, ◌<◌, drop}
use Rattle.refusal.specs.Got.{got}
use Rattle.state.specs.declared.Call.{Call}
use Rattle.record.specs.Record.{Record}
use Rattle.record.specs.Write.{record_bytes}
use Rattle.reading.specs.Read.{read_macroblock}
use Rattle.reading.specs.Bits.{call_of}
use Rattle.state.specs.State.{State, context_of}
use Rattle.macroblock.specs.Decode.{applied}

-- what the questions said of an accepted call
pub record Ready (s : State) (call : Call) : Type 0 where
  pub wide : s.cols ≤ 4096
  pub high : s.rows ≤ 4096
  pub mode : call.mode ≤ 7
  pub column : call.column < s.cols
  pub row : call.row < s.rows
  pub quantiser : s.quantiser ≤ 31

-- from state s and the bits b, the records rs lead to state t and take k bits
pub data Path : State → List Bool → List Record → State → ℕ → Type 0 where
  done : {s : State} {b : List Bool} → Path s b [] s 0
  step : {s t : State} {b : List Bool} {r : Record} {rs : List Record} {k : ℕ} (call : Call) (n m : ℕ)
      → Ready s call → read_macroblock (context_of s) call b ≡ got r n → Path (applied s r) (drop n b) rs t m → n + m ≡ k → Path s b (r ∷ rs) t k

-- their calls, their bytes and how many components they clipped
unfoldable pub calls_of : List Record → List Call
calls_of [] = []
calls_of (r ∷ rs) = call_of r ∷ calls_of rs

unfoldable pub bytes_of : List Record → List ℕ
bytes_of [] = []
bytes_of (r ∷ rs) = record_bytes r ++ bytes_of rs

unfoldable pub clips_of : List Record → ℕ
clips_of [] = 0
clips_of (r ∷ rs) = r.head.clipped + clips_of rs
