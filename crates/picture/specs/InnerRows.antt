-- How a loop stores, one element after another: contracts of inner functions and invariants of loops. `rows-painted` of proofs/Laws.antt ties it to `painted`.
-- Assumes nothing.
use Rattle.std.specs.Prelude.{ℕ, zero, suc, ◌+◌, ◌*◌, List, get_or, set}

-- l after n stores: `value k` at `at + k`, for k from 0
unfoldable pub row : {A : Type 0} → List A → ℕ → (ℕ → A) → ℕ → List A
row l at value zero = l
row l at value (suc n) = set (row l at value n) (at + n) (value n)

-- l after h rows of w stores each: `value r c` at column x + c of row y + r
unfoldable pub rows : {A : Type 0} → List A → ℕ → ℕ → ℕ → (ℕ → ℕ → A) → ℕ → ℕ → List A
rows l stride x y value w zero = l
rows l stride x y value w (suc h) = row (rows l stride x y value w h) ((y + h) * stride + x) (value h) w

-- the samples of l from `from` on
unfoldable pub run : List ℕ → ℕ → ℕ → ℕ
run l from k = get_or l (from + k) 0
