-- What reading lists leaves among the levels, also where a list is refused: contracts of inner functions. proofs/Left.antt ties it to what is read.
-- Assumes nothing.
use Rattle.std.specs.Prelude.{◌≡◌, Bool, List, ℕ, zero, suc, ◌+◌, ℤ, drop}
use Rattle.std.proofs.lemmas.List.Edits.{sets}
use Rattle.ints.specs.Z.{when◌then◌else◌}
use Rattle.refusal.specs.Got.{Got, got, refused}
use Rattle.levels.specs.Book.{positions}
use Rattle.levels.specs.Levels.{zeros, block}
use Rattle.refusal.specs.Answered.{reached}
use Rattle.levels.specs.declared.svq3_coeff.ResidualBook.{ResidualBook}
use Rattle.refusal.specs.declared.Refusal.{Refusal}
use Rattle.std.specs.Prelude.{Result}
use Rattle.levels.specs.Items.{item_coded, item_count, item_place, read_item}

-- what `next` leaves behind a list, or `stop` where the list is refused
abbrev pub or_stop : Got (List ℤ) → List Bool → List ℤ → (List ℤ → List Bool → List ℤ) → List ℤ
or_stop (got found n) s stop next = next found (drop n s)
or_stop (refused r) s stop next = stop

-- the levels after the n lists from the i-th on: each coded one at its place, up to one that is refused, which leaves zeros there; no list behind that one is read
unfoldable pub left_items : ℕ → ℕ → ℕ → List ℤ → List Bool → List ℤ
left_items zero i pattern levels s = levels
left_items (suc n) i pattern levels s =
    when item_coded pattern i
    then or_stop (read_item i s) s (sets levels (item_place i) (zeros (item_count i))) (λ found rest. left_items n (suc i) pattern (sets levels (item_place i) found) rest)
    else left_items n (suc i) pattern levels s

-- after n lists of a book, each from position `start` on, side by side from a place on
unfoldable pub left_side : ResidualBook → ℕ → ℕ → ℕ → List ℤ → List Bool → List ℤ
left_side book start zero place levels s = levels
left_side book start (suc n) place levels s =
    or_stop (block book start s) s (sets levels place (zeros (positions book))) (λ found rest. left_side book start n (place + positions book) (sets levels place found) rest)

-- of a reader that found these levels and started at a place of the bits s: its answer, and the levels that it leaves, whatever it answers
pub record Leaves (read : List ℤ → List Bool → Got (List ℤ)) (left : List ℤ → List Bool → List ℤ) (levels : List ℤ) (s : List Bool) (at : ℕ) (answer : Result ℕ Refusal) (out : List ℤ) : Type 0 where
  pub answers : answer ≡ reached at (read levels (drop at s))
  pub leaves : out ≡ left levels (drop at s)
