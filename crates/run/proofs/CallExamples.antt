-- Lists of calls at numbers, by computation.
-- Assumes nothing.
use mathlib.Core.Path.{◌≡◌, refl}
use mathlib.Core.List.{[], ◌∷◌}
use Rattle.refusal.specs.Got.{got, refused}
use Rattle.refusal.specs.declared.Refusal.TheVariants.{NumberForm}
use Rattle.number.specs.Number.{read_number, low_then}
use Rattle.refusal.specs.Until.{until_end}
use Rattle.run.specs.Calls.{call_in, calls_in, calls}

-- no call; a call; two calls, the first in column 300
pub lists : (calls [] ≡ got [] 0)
    × (calls (0 ∷ 0 ∷ 1 ∷ []) ≡ got (record { column = 0; row = 0; mode = 1 } ∷ []) 3)
    × (calls (172 ∷ 2 ∷ 1 ∷ 7 ∷ 3 ∷ 2 ∷ 0 ∷ []) ≡ got (record { column = 300; row = 1; mode = 7 } ∷ record { column = 3; row = 2; mode = 0 } ∷ []) 7)
unfolding calls calls_in until_end call_in read_number low_then
lists = (refl, refl, refl)

-- bytes that end inside three numbers, or inside one; a number that is not in its shortest form
pub not-lists : (calls (0 ∷ 0 ∷ []) ≡ refused NumberForm) × (calls (0 ∷ 0 ∷ 1 ∷ 5 ∷ []) ≡ refused NumberForm) × (calls (0 ∷ 0 ∷ 129 ∷ []) ≡ refused NumberForm) × (calls (128 ∷ 0 ∷ 0 ∷ 1 ∷ []) ≡ refused NumberForm)
unfolding calls calls_in until_end call_in read_number low_then
not-lists = (refl, refl, refl, refl)
