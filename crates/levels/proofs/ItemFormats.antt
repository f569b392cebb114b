-- The lists of a macroblock's bits are a format.
-- Assumes nothing.
use Prim.Native.Nat.{ℕ}
use native.Mathlib.Nat.{le_of_lt}
use Rattle.refusal.specs.Format.{Format}
use Rattle.levels.specs.Levels.{block, block_bits, BlockRange}
use Rattle.levels.proofs.Blocks.{block-format}
use Rattle.levels.specs.Items.{no_levels, ItemsRange, item_book, item_start, item_count, read_items, items_bits}
use Rattle.levels.proofs.ListKinds.{start_fits}
use Rattle.levels.proofs.Lists.{lists-format}

-- THE LISTS of a macroblock's bits, for each pattern
pub items-format : (pattern : ℕ) → Format (read_items 26 0 pattern no_levels) (items_bits 26 0 pattern) (ItemsRange pattern)
unfolding read_items items_bits item_count
items-format pattern =
    lists-format (λ i. block (item_book i) (item_start i)) (λ i. block_bits (item_book i) (item_start i)) (λ i. BlockRange (item_book i) (item_start i))
    (λ i. block-format (item_book i) (item_start i) (le_of_lt (start_fits i))) (λ i xs r. r.count) pattern
