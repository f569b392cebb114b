-- What a C caller gives.
-- Assumes nothing.
use Rattle.std.specs.Prelude.{not, ℕ, ◌/◌, ◌%◌, eqb}
use Rattle.state.specs.declared.Frame.{Frame}

-- flags: 1 half plus 2 third; delta-enable is off at 0
abbrev pub frame_of : ℕ → ℕ → ℕ → ℕ → Frame
frame_of cols rows flags delta =
    record { grid = record { cols = cols; rows = rows }; flags = record { halfpel = eqb (flags % 2) 1; thirdpel = eqb (flags / 2 % 2) 1; delta = not (eqb delta 0) } }
