-- The bytes of lists of one kind side by side, each list coded or passed over as a whole.
-- Assumes nothing.
use mathlib.Core.Path.{◌≡◌, refl, ap, ◌∙◌}
use mathlib.Core.Bool.{true, false}
use mathlib.Core.List.{List, [], ◌++◌}
use Prim.Native.Nat.{ℕ, zero, suc, ◌+◌, ◌-◌, ◌≤◌}
use native.Mathlib.Omega.{arith}
use lib.IntN.{ℤ}
use lib.ListN.{take, drop}
use lib.Seq.{drop-drop}
use Rattle.levels.specs.Book.{positions}
use Rattle.levels.specs.declared.svq3_coeff.ResidualBook.{ResidualBook}
use Rattle.levels.specs.Items.{item_coded, item_book, item_start, item_count, item_place, item_levels, write_lists}
use Rattle.levels.proofs.Turns.{when_true}
use Rattle.levels.proofs.Sets.{drop_of_take}
use Rattle.levels.proofs.Sides.{Side, Kind, Coded, next-side, none_written}
use Rattle.record.specs.Write.{signed_numbers, item_bytes, items_bytes}
use Rattle.record.specs.InnerSides.{side_bytes}

module _ (book : ResidualBook) (start pattern : ℕ) where
  one_written : (i place : ℕ) → item_book i ≡ book → item_start i ≡ start → place ≡ item_place i → (ls : List ℤ) → item_bytes i (item_levels ls i) ≡ signed_numbers (take (positions book - start) (drop (place + start) ls))
  unfolding item_bytes item_levels item_count
  one_written i place b z p ls =
      rw (← b, ← z, p) (ap signed_numbers (drop_of_take (item_start i) (positions (item_book i)) (drop (item_place i) ls) ∙ ap (take (positions (item_book i) - item_start i)) (drop-drop (item_start i) (item_place i) ls)))

  all-written : (n i : ℕ) → i + n ≤ 26 → Kind book start pattern i (i + n) → Coded pattern i (i + n) true → (place : ℕ) → place ≡ item_place i → (ls : List ℤ) → write_lists item_bytes n i pattern ls ≡ side_bytes book start n place ls
  unfolding write_lists side_bytes
  all-written zero i m k c place p ls = refl
  all-written (suc n) i m k c place p ls =
      let here = k i (omega arith) (omega arith) in
      ap (λ (l : List ℕ). l ++ write_lists item_bytes n (suc i) pattern ls) (when_true (item_coded pattern i) (item_bytes i (item_levels ls i)) [] (c i (omega arith) (omega arith)) ∙ one_written i place here.0 here.1 p ls)
      ∙ ap (λ (l : List ℕ). signed_numbers (take (positions book - start) (drop (place + start) ls)) ++ l)
      (all-written n (suc i) (omega arith) (λ j a b. k j (omega arith) (omega arith)) (λ j a b. c j (omega arith) (omega arith)) (place + positions book) (next-side book start pattern i (i + suc n) place (omega arith) m k p) ls)

module _ {book : ResidualBook} {start n i : ℕ} (d : Side book start n i) (pattern : ℕ) where
  pub side-written : item_coded pattern i ≡ true → (place : ℕ) → place ≡ item_place i → (ls : List ℤ) → items_bytes n i pattern ls ≡ side_bytes book start n place ls
  unfolding items_bytes
  side-written t = all-written book start pattern n i d.most d.kind (λ j a b. d.same pattern j a b ∙ t)

  pub side-unwritten : item_coded pattern i ≡ false → (ls : List ℤ) → items_bytes n i pattern ls ≡ []
  unfolding items_bytes
  side-unwritten t = none_written pattern item_bytes n i (λ j a b. d.same pattern j a b ∙ t)
