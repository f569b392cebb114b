-- What the readers of levels answer, and what they leave in their room.
-- Assumes nothing.
use Rattle.std.specs.Prelude.{◌≡◌, Bool, List, ℕ, ℤ, drop, Result, Ok, Err, Some}
use Rattle.std.proofs.lemmas.List.Edits.{sets}
use Rattle.refusal.specs.Got.{Got, got, refused}
use Rattle.refusal.specs.Answered.{answered, reached}
use Rattle.refusal.specs.declared.Refusal.{Refusal}
use Rattle.bits.specs.InnerWindow.{Shows}
use Rattle.levels.specs.declared.svq3_coeff.ResidualBook.{ResidualBook}
use Rattle.levels.specs.declared.svq3_coeff.Taken.{Taken}
use Rattle.levels.specs.Book.{LevelRun}
use Rattle.levels.specs.Levels.{zeros, level_run}

-- what a code said, and the place behind it
abbrev pub told : Result Taken Refusal → Result (LevelRun × ℕ) Refusal
told (Ok taken) = Ok (taken.said, taken.next)
told (Err r) = Err r

-- the code at a place of the bits s, and a window that shows the bits behind it, where it says a level
pub record Stepped (book : ResidualBook) (s : List Bool) (at : ℕ) (answer : Result Taken Refusal) : Type 0 where
  pub says : told answer ≡ answered at (level_run book (drop at s))
  pub shows : (taken : Taken) (level : ℤ) (run : ℕ) → answer ≡ Ok taken → taken.said ≡ Some (level, run) → Shows taken.window.word taken.window.known (drop taken.next s)

-- what `out` holds afterwards: from a place on, the levels, or as many zeros as there is room for
abbrev pub left_in : List ℤ → ℕ → ℕ → Got (List ℤ) → List ℤ
left_in out place room (got bs n) = sets out place bs
left_in out place room (refused r) = sets out place (zeros room)

-- a reader's answer and what it leaves in `out`, of a block read at a place
pub record Decoded (at room : ℕ) (read : Got (List ℤ)) (out : List ℤ) (place : ℕ) (answer : Result ℕ Refusal) (left : List ℤ) : Type 0 where
  pub answers : answer ≡ reached at read
  pub leaves : left ≡ left_in out place room read
