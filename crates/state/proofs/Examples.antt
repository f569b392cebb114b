-- Worked examples, computed: question 7 at the bit total of two bytes, past it, and for a slice whose places do not fit 64 bits.
-- Assumes nothing.
use mathlib.Core.Path.{◌≡◌, refl}
use Prim.Native.Nat.{◌^◌}
use Rattle.refusal.specs.declared.Refusal.TheVariants.{BitPlace}
use Rattle.state.specs.Questions.{yes, place_in, ask_place}
use Rattle.std.specs.Prelude.{Err}

pub examples :
    (ask_place 2 16 yes ≡ yes)
    × (ask_place 2 17 yes ≡ Err BitPlace)
    × (ask_place (2 ^ 61) 0 yes ≡ Err BitPlace)
unfolding place_in ask_place
examples = (refl, refl, refl)
