-- The list behind the group of a list.
-- Assumes nothing.
use Rattle.std.specs.Prelude.{◌≡◌, ℕ, ◌≤◌, ◌<◌}
use Rattle.levels.specs.Items.{item_coded}

-- each list from i on and before e is coded where list i is, and only there
pub record Group (i e : ℕ) : Type 0 where
  pub on : i < e
  pub most : e ≤ 26
  pub same : (pattern j : ℕ) → i ≤ j → j < e → item_coded pattern j ≡ item_coded pattern i
