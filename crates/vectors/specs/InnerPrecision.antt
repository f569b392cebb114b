-- What the reader of one bit reads: contracts of inner functions.
-- Assumes nothing.
use Rattle.std.specs.Prelude.{Bool, List, [], ◌∷◌}
use Rattle.refusal.specs.Got.{Got, got, refused}
use Rattle.refusal.specs.declared.Refusal.TheVariants.{Truncated}

-- the bit at the head of s
unfoldable pub first_bit : List Bool → Got Bool
first_bit [] = refused Truncated
first_bit (b ∷ s) = got b 1
