-- The 26 lists of levels, in the order in which they are read and written: 16 luma blocks, four for each quadrant in bit order; Cb DC, Cr DC; four Cb blocks, four Cr blocks.
-- Assumes nothing.
use Rattle.std.specs.Prelude.{List, [], ◌++◌, ℕ, ◌-◌, ◌*◌, ◌<◌, zero, suc, ◌+◌, ◌/◌, ℤ, pos, replicate, length, take, drop, ◌≡◌, true, false, Bool, eqb, ltb}
use Rattle.levels.specs.Levels.{zeros, BlockRange, block, block_bits}
use Rattle.std.proofs.lemmas.List.Edits.{sets}
use Rattle.ints.specs.Z.{when◌then◌else◌}
use Rattle.refusal.specs.Got.{Got, got, and_then}
use Rattle.levels.specs.Book.{positions}
use Rattle.levels.specs.Pattern.{class_of, quadrant_coded}
use Rattle.levels.specs.declared.svq3_coeff.ResidualBook.{ResidualBook}
use Rattle.levels.specs.declared.svq3_coeff.ResidualBook.TheVariants.{NormalScan, ChromaDc}

-- a luma list by its quadrant, chroma DC from class 1 on, chroma AC at class 2
unfoldable pub item_coded : ℕ → ℕ → Bool
item_coded pattern i = when ltb i 16 then quadrant_coded pattern (i / 4) else when ltb i 18 then ltb 0 (class_of pattern) else eqb (class_of pattern) 2

-- the book of its codes
unfoldable pub item_book : ℕ → ResidualBook
item_book i = when ltb i 16 then NormalScan else when ltb i 18 then ChromaDc else NormalScan

-- AC lists start at position 1
unfoldable pub item_start : ℕ → ℕ
item_start i = when ltb i 18 then 0 else 1

-- the number of its places; place 0 of an AC list stays 0
unfoldable pub item_count : ℕ → ℕ
item_count i = positions (item_book i)

-- its first place among the record's 392
unfoldable pub item_place : ℕ → ℕ
item_place i = when ltb i 16 then 16 * i else when ltb i 18 then 256 + 4 * (i - 16) else 264 + 16 * (i - 18)

-- its levels, by raster place
unfoldable pub item_levels : List ℤ → ℕ → List ℤ
item_levels levels i = take (item_count i) (drop (item_place i) levels)

-- of the n lists from the i-th on, each coded one is read by `read` and put at its place
unfoldable pub read_lists : {E : Type 0} → (ℕ → List E → Got (List ℤ)) → ℕ → ℕ → ℕ → List ℤ → List E → Got (List ℤ)
read_lists read zero i pattern levels s = got levels 0
read_lists read (suc n) i pattern levels s =
    when item_coded pattern i
    then and_then (read i s) s (λ found rest. read_lists read n (suc i) pattern (sets levels (item_place i) found) rest)
    else read_lists read n (suc i) pattern levels s

-- each coded one as `write` has it, one after another
unfoldable pub write_lists : {E : Type 0} → (ℕ → List ℤ → List E) → ℕ → ℕ → ℕ → List ℤ → List E
write_lists write zero i pattern levels = []
write_lists write (suc n) i pattern levels = (when item_coded pattern i then write i (item_levels levels i) else []) ++ write_lists write n (suc i) pattern levels

-- the lists as a macroblock's bits have them: one read, all of them, and their bits
abbrev pub read_item : ℕ → List Bool → Got (List ℤ)
read_item i = block (item_book i) (item_start i)

unfoldable pub read_items : ℕ → ℕ → ℕ → List ℤ → List Bool → Got (List ℤ)
read_items = read_lists read_item

unfoldable pub items_bits : ℕ → ℕ → ℕ → List ℤ → List Bool
items_bits = write_lists (λ i. block_bits (item_book i) (item_start i))

-- no level at all
unfoldable pub no_levels : List ℤ
no_levels = replicate 392 (pos 0)

-- 392 levels: each coded list is `fine`, the others are 0
pub record ListsRange (fine : ℕ → List ℤ → Type 0) (pattern : ℕ) (levels : List ℤ) : Type 0 where
  pub count : length levels ≡ 392
  pub coded : (i : ℕ) → i < 26 → item_coded pattern i ≡ true → fine i (item_levels levels i)
  pub others : (i : ℕ) → i < 26 → item_coded pattern i ≡ false → item_levels levels i ≡ zeros (item_count i)

-- levels that a macroblock's bits can say
abbrev pub ItemsRange : ℕ → List ℤ → Type 0
ItemsRange = ListsRange (λ i. BlockRange (item_book i) (item_start i))
