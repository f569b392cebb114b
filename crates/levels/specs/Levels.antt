-- A list of levels: codes up to the code 0, each a level some positions on; and the bits of a list.
-- Assumes nothing.
use Rattle.std.specs.Prelude.{◌≡◌, Bool, cond, List, [], ◌∷◌, ◌++◌, ℕ, zero, suc, ◌+◌, ◌-◌, eqb, ltb, ℤ, pos, nat_abs, length, take, drop, replicate}
use Rattle.refusal.specs.Got.{Got, got, refused, and_then, map_got}
use Rattle.refusal.specs.declared.Refusal.TheVariants.{LevelPosition}
use Rattle.bits.specs.Code.{code, code_bits, CodeRange}
use Rattle.levels.specs.Book.{positions, resolve, code_of_level}
use Rattle.levels.specs.Scan.{raster, unraster}
use Rattle.levels.specs.declared.svq3_coeff.ResidualBook.{ResidualBook}
use Rattle.levels.specs.Book.{LevelRun}
use Rattle.std.specs.Prelude.{Some, None}

abbrev pub zeros : ℕ → List ℤ
zeros n = replicate n (pos 0)

-- what the code at the head of s says
unfoldable pub level_run : ResidualBook → List Bool → Got LevelRun
level_run book s = map_got (resolve book) (code s)

-- what a code does at a position of `count`: the end leaves 0 from there on; a level stands `run` positions on, where the list must still have one, and `next` reads on behind it
abbrev pub standing : ℕ → ℕ → LevelRun → (ℕ → Got (List ℤ)) → Got (List ℤ)
standing count position None next = got (zeros (count - position)) 0
standing count position (Some (level, run)) next =
    cond (ltb (position + run) count)
    (map_got (λ ls. zeros run ++ level ∷ ls) (next (position + run + 1)))
    (refused (LevelPosition (position + run)))

-- the levels from a position on. Each level takes a position, so as many turns as the list has positions leave none for the last, which needs the end code
unfoldable pub levels_from : ResidualBook → ℕ → ℕ → List Bool → Got (List ℤ)
levels_from book zero position s = and_then (level_run book s) s (λ found rest. standing (positions book) position found (λ p. refused (LevelPosition p)))
levels_from book (suc turns) position s = and_then (level_run book s) s (λ found rest. standing (positions book) position found (λ p. levels_from book turns p rest))

-- a list that starts at a position: its levels by position
unfoldable pub levels : ResidualBook → ℕ → List Bool → Got (List ℤ)
levels book start s = levels_from book (positions book) start s

-- ---- the bits of a list
abbrev pub is_zero : ℤ → Bool
is_zero l = eqb (nat_abs l) 0

-- after `run` zeros: each level that is not 0 by its code, then the code 0
unfoldable pub level_bits : ResidualBook → ℕ → List ℤ → List Bool
level_bits book run [] = code_bits 0
level_bits book run (l ∷ ls) = cond (is_zero l) (level_bits book (run + 1) ls) (code_bits (code_of_level book l run) ++ level_bits book 0 ls)

-- each level that is not 0 has a code of at most 31 data bits
unfoldable pub LevelsCoded : ResidualBook → ℕ → List ℤ → Type 0
LevelsCoded book run [] = Unit {0}
LevelsCoded book run (l ∷ ls) = cond (is_zero l) (LevelsCoded book (run + 1) ls) (CodeRange (code_of_level book l run) × LevelsCoded book 0 ls)

pub record LevelsRange (book : ResidualBook) (start : ℕ) (ls : List ℤ) : Type 0 where
  pub count : length ls ≡ positions book - start
  pub coded : LevelsCoded book 0 ls

-- ---- by raster place
-- the levels of a whole block, 0 at the positions before the start
unfoldable pub block : ResidualBook → ℕ → List Bool → Got (List ℤ)
block book start s = map_got (λ ls. raster book (zeros start ++ ls)) (levels book start s)

unfoldable pub block_bits : ResidualBook → ℕ → List ℤ → List Bool
block_bits book start bs = level_bits book 0 (drop start (unraster book bs))

pub record BlockRange (book : ResidualBook) (start : ℕ) (bs : List ℤ) : Type 0 where
  pub count : length bs ≡ positions book
  pub before : take start (unraster book bs) ≡ zeros start
  pub coded : LevelsCoded book 0 (drop start (unraster book bs))
