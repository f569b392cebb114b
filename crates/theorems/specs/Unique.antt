-- What unique reading compares of two runs.
-- Assumes nothing.
use Rattle.std.specs.Prelude.{◌≡◌, ◌⊎◌, List, ℕ}
use Rattle.run.specs.Run.{Ran, consumed}

-- the same accepted calls, from the same bits
abbrev pub SameReading : List ℕ → ℕ → Ran → List ℕ → ℕ → Ran → Type 0
SameReading bits place r bits' place' r' = (r.accepted ≡ r'.accepted) × (consumed bits place r ≡ consumed bits' place' r')

-- one of the two clipped no component
abbrev pub OneUnclipped : Ran → Ran → Type 0
OneUnclipped r r' = (r.clipped ≡ 0) ⊎ (r'.clipped ≡ 0)
