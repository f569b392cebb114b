-- What a reader of a slice answers that began at a place.
-- Assumes nothing.
use Rattle.std.specs.Prelude.{ℕ, ◌+◌, Result, Ok, Err}
use Rattle.refusal.specs.Got.{Got, got, refused}
use Rattle.refusal.specs.declared.Refusal.{Refusal}

-- the value and the place behind it, or the refusal
abbrev pub answered : {X : Type 0} → ℕ → Got X → Result (X × ℕ) Refusal
answered at (got x n) = Ok (x, at + n)
answered at (refused r) = Err r

-- the place that it reached
abbrev pub reached : {X : Type 0} → ℕ → Got X → Result ℕ Refusal
reached at (got x n) = Ok (at + n)
reached at (refused r) = Err r
