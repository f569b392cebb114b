-- Modes: 0 skip, 1 16×16, 2 8×16 (width first), 3 16×8, 4 8×8, 5 4×8, 6 8×4, 7 4×4. A skip is one block and has no vector.
-- Assumes nothing.
use Rattle.std.specs.Prelude.{[], ◌∷◌, ℕ, ◌*◌, ◌/◌, ◌%◌, get_or}

-- the size of a partition, in luma samples
unfoldable pub partition_width : ℕ → ℕ
partition_width mode = get_or (16 ∷ 16 ∷ 8 ∷ 16 ∷ 8 ∷ 4 ∷ 8 ∷ 4 ∷ []) mode 0

unfoldable pub partition_height : ℕ → ℕ
partition_height mode = get_or (16 ∷ 16 ∷ 16 ∷ 8 ∷ 8 ∷ 8 ∷ 4 ∷ 4 ∷ []) mode 0

-- the number of partitions
unfoldable pub num_motion_vectors : ℕ → ℕ
num_motion_vectors mode = get_or (0 ∷ 1 ∷ 2 ∷ 2 ∷ 4 ∷ 8 ∷ 8 ∷ 16 ∷ []) mode 0

-- partitions go row by row, 16 / width of them in a row; where partition i starts in its macroblock
unfoldable pub offset_x : ℕ → ℕ → ℕ
offset_x mode i = i % (16 / partition_width mode) * partition_width mode

unfoldable pub offset_y : ℕ → ℕ → ℕ
offset_y mode i = i / (16 / partition_width mode) * partition_height mode
