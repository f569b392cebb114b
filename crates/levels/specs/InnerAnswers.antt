-- What a reader of levels answers and leaves.
-- Assumes nothing.
use Rattle.std.specs.Prelude.{◌≡◌, List, ℕ, ℤ}
use Rattle.refusal.specs.Got.{Got, got}
use Rattle.refusal.specs.Answered.{reached}
use Rattle.refusal.specs.declared.Refusal.{Refusal}
use Rattle.std.specs.Prelude.{Result}

-- the answer of a reader that started at a place, and the levels that it leaves, which are said where it ends
pub record Left (at : ℕ) (read : Got (List ℤ)) (answer : Result ℕ Refusal) (left : List ℤ) : Type 0 where
  pub answers : answer ≡ reached at read
  pub leaves : (ls : List ℤ) (n : ℕ) → read ≡ got ls n → left ≡ ls
