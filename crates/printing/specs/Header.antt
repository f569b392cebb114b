-- The printer's header: columns, rows, flags, delta-enable, quantiser and call count. Each number is judged as it is read: 14 where it is not in form, then 15 where it is out of range.
-- Assumes nothing.
use Rattle.std.specs.Prelude.{◌&&◌, List, [], ◌∷◌, ℕ, zero, suc, ◌≤◌, ◌/◌, ◌%◌, leb, eqb}
use Rattle.ints.specs.Z.{when◌then◌else◌}
use Rattle.refusal.specs.Got.{Got, got, refused, and_then, map_got}
use Rattle.refusal.specs.declared.Refusal.TheVariants.{FieldRange}
use Rattle.number.specs.Number.{read_number}
use Rattle.state.specs.declared.Call.{Call}
use Rattle.run.specs.Calls.{call_in}
use Rattle.state.specs.declared.Frame.{Frame}
use Rattle.printing.specs.declared.header.Header.{Header}

-- a number from `least` to `most`
unfoldable pub ranged : ℕ → ℕ → List ℕ → Got ℕ
ranged least most s = and_then (read_number s) s (λ v rest. when leb least v && leb v most then got v 0 else refused FieldRange)

unfoldable pub header_in : List ℕ → Got Header
header_in s =
    and_then (ranged 1 4 s) s (λ cols s₁.
    and_then (ranged 1 4 s₁) s₁ (λ rows s₂.
    and_then (ranged 0 3 s₂) s₂ (λ flags s₃.
    and_then (ranged 0 1 s₃) s₃ (λ delta s₄.
    and_then (ranged 0 31 s₄) s₄ (λ quantiser s₅.
    map_got (λ count. record { grid = record { cols = cols; rows = rows }; flags = flags; delta = delta; quantiser = quantiser; count = count }) (ranged 0 16 s₅))))))

-- the calls, of which there are n
unfoldable pub calls_from : ℕ → List ℕ → Got (List Call)
calls_from zero s = got [] 0
calls_from (suc n) s = and_then (call_in s) s (λ call rest. map_got (λ calls. call ∷ calls) (calls_from n rest))

-- what a header that was read holds
pub record HeaderRange (h : Header) : Type 0 where
  pub cols : h.grid.cols ≤ 4
  pub rows : h.grid.rows ≤ 4
  pub count : h.count ≤ 16

-- flags are 1 half + 2 third
abbrev pub frame_of : Header → Frame
frame_of h = record { grid = h.grid; flags = record { halfpel = eqb (h.flags % 2) 1; thirdpel = eqb (h.flags / 2) 1; delta = eqb h.delta 1 } }
