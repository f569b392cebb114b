-- The levels from a position on, by what the next code says.
-- Assumes nothing.
use mathlib.Core.Path.{◌≡◌}
use mathlib.Core.Bool.{Bool}
use mathlib.Core.List.{List, ◌∷◌, ◌++◌}
use Prim.Native.Nat.{ℕ, zero, suc, ◌+◌, ◌-◌, ◌≤◌, ◌<◌}
use borrow.Author.Tests.{lt-ltb, le-ltb}
use lib.IntN.{ℤ}
use lib.ListN.{drop}
use Rattle.refusal.specs.Got.{got, refused, after, map_got}
use Rattle.refusal.specs.declared.Refusal.{Refusal}
use Rattle.refusal.specs.declared.Refusal.TheVariants.{LevelPosition}
use Rattle.levels.specs.Book.{positions}
use Rattle.levels.specs.Levels.{zeros, level_run, levels_from}
use Rattle.levels.specs.declared.svq3_coeff.ResidualBook.{ResidualBook}
use Rattle.std.specs.Prelude.{Some, None}

module _ (book : ResidualBook) (position : ℕ) (s : List Bool) where
  pub from-refused : (turns : ℕ) (x : Refusal) → level_run book s ≡ refused x → levels_from book turns position s ≡ refused x
  unfolding levels_from
  from-refused zero x e = rw e
  from-refused (suc turns) x e = rw e

  pub from_end : (turns n : ℕ) → level_run book s ≡ got None n → levels_from book turns position s ≡ got (zeros (positions book - position)) (n + 0)
  unfolding levels_from
  from_end zero n e = rw e
  from_end (suc turns) n e = rw e

  pub from_past : (turns n : ℕ) (l : ℤ) (r : ℕ) → level_run book s ≡ got (Some (l, r)) n → positions book ≤ position + r → levels_from book turns position s ≡ refused (LevelPosition (position + r))
  unfolding levels_from
  from_past zero n l r e h = rw (e, le-ltb (position + r) (positions book) h)
  from_past (suc turns) n l r e h = rw (e, le-ltb (position + r) (positions book) h)

  pub from-level : (turns n : ℕ) (l : ℤ) (r : ℕ) → level_run book s ≡ got (Some (l, r)) n → position + r < positions book
      → levels_from book (suc turns) position s ≡ after n (map_got (λ ls. zeros r ++ l ∷ ls) (levels_from book turns (position + r + 1) (drop n s)))
  unfolding levels_from
  from-level turns n l r e h = rw (e, lt-ltb (position + r) (positions book) h)
