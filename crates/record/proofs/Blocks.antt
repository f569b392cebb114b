-- The lists of a macroblock's bits are a format; and what they can say a transcript can say.
-- Assumes nothing.
use mathlib.Core.Path.{◌≡◌, ap}
use mathlib.Core.List.{List, [], ◌++◌}
use mathlib.Core.Logic.{⊎_elim}
use Prim.Native.Nat.{ℕ, ◌≤◌, ◌<◌, ◌^◌}
use native.Mathlib.Nat.{le_of_lt}
use native.Mathlib.Omega.{arith}
use lib.Dec.{lit<}
use lib.IntN.{ℤ, pos, negsuc, nat_abs}
use lib.Signed.{mag}
use lib.ListN.{length, get_or, take, get_or-eq_default}
use Rattle.number.proofs.Numbers.{lt-or-le}
use Rattle.levels.specs.Book.{positions}
use Rattle.levels.specs.Levels.{zeros, block_bits, BlockRange}
use Rattle.levels.specs.declared.svq3_coeff.ResidualBook.{ResidualBook}
use Rattle.levels.specs.declared.svq3_coeff.ResidualBook.TheVariants.{NormalScan, ChromaDc}
use Rattle.levels.proofs.Blocks.{block-format, ac-block}
use Rattle.levels.proofs.Books.{most}
use Rattle.levels.proofs.Ranges.{block-most}
use Rattle.levels.specs.Items.{item_book, item_start, item_count, item_levels, ListsRange, ItemsRange}
use Rattle.record.specs.Range.{ItemRange, I32s}
use Rattle.levels.proofs.ListKinds.{by_kind, is-luma, is-dc, is-ac, start_fits}

-- ---- what bits can say is any i32
narrow : (z : ℤ) (m : ℕ) → nat_abs z ≤ m → m < 2 ^ 31 → mag z < 2 ^ 31
narrow (pos n) m h k = omega arith
narrow (negsuc n) m h k = omega arith

most-fits : (book : ResidualBook) → most book < 2 ^ 31
most-fits NormalScan = lit< tt
most-fits ChromaDc = lit< tt

module _ (book : ResidualBook) (start : ℕ) (h : start ≤ positions book) (bs : List ℤ) (r : BlockRange book start bs) where
  block-i32s : I32s bs
  block-i32s i = ⊎_elim
      (λ (l : i < positions book).
      narrow (get_or bs i (pos 0)) (most book) (block-most book start (block_bits book start bs ++ []) bs (length (block_bits book start bs)) h ((block-format book start h).reads bs [] r) i l) (most-fits book))
      (λ (l : positions book ≤ i). let k : length bs ≤ i = omega (arith, r.count) in rw (get_or-eq_default bs (pos 0) k) (lit< tt))
      (lt-or-le i (positions book))

-- 0 at place 0 of an AC list
before-item : (i : ℕ) (xs : List ℤ) → BlockRange (item_book i) (item_start i) xs → take (item_start i) xs ≡ zeros (item_start i)
before-item i xs r = by_kind i
    (λ h. rw (is-luma i h).start)
    (λ h k. rw (is-dc i h k).start)
    (λ h. let a = is-ac i h in rw a.start (ap (take 1) (ac-block xs (rw (a.book, a.start) at r))))

pub said : (pattern : ℕ) (levels : List ℤ) → ItemsRange pattern levels → ListsRange ItemRange pattern levels
unfolding item_count
said pattern levels r =
    record {
      count = r.count;
      coded = λ i h c.
          let b = r.coded i h c in
          record { count = b.count; before = before-item i (item_levels levels i) b; fits = block-i32s (item_book i) (item_start i) (le_of_lt (start_fits i)) (item_levels levels i) b };
      others = r.others;
    }
