-- The pattern's look-up.
-- Assumes nothing.
use Rattle.std.specs.Prelude.{cond, ℕ, ltb, get_or, Option, Some, None}
use Rattle.levels.specs.Pattern.{patterns}

-- the table at any code
unfoldable pub pattern_entry : ℕ → Option ℕ
pattern_entry k = cond (ltb k 48) (Some (get_or patterns k 0)) None
