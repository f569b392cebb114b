-- A run of places written at once holds what as many stores would leave.
-- Assumes nothing.
use mathlib.Core.Path.{◌≡◌, refl, sym, ◌∙◌}
use mathlib.Core.List.{List}
use Prim.Native.Nat.{ℕ, zero, suc, ◌+◌, ◌≤◌, ◌<◌}
use native.Mathlib.Numerals.{add-one}
use native.Mathlib.Omega.{arith}
use borrow.Rule.Slice.PartMut.{put_mid}
use lib.ListN.{length, get_or, set}
use lib.Seq.{paste}
use Rattle.std.proofs.lemmas.List.Edits.{paste_none, paste_more}
use Rattle.std.proofs.lemmas.Slice.{put_mid-paste}
use Rattle.picture.specs.InnerRows.{row}

module _ (l ys : List ℕ) (at : ℕ) (v : ℕ → ℕ) where
  stored : (n : ℕ) → n ≤ length ys → at + n ≤ length l → ((k : ℕ) → k < n → get_or ys k 0 ≡ v k) → row l at v n ≡ paste l at ys n
  unfolding row
  stored zero few room same = paste_none l at ys
  stored (suc n) few room same =
      rw (← add-one n)
      ((λ i. set (stored n (omega arith) (omega arith) (λ k lt. same k (omega arith)) i) (at + n) (sym (same n (omega arith)) i)) ∙ paste_more l at ys n 0 (omega arith) (omega arith))

  pub put-run : {k : ℕ} (n : ℕ) → n ≡ k → length ys ≡ n → at + n ≤ length l → ((k : ℕ) → k < n → get_or ys k 0 ≡ v k) → put_mid at k l ys ≡ row l at v n
  put-run {k} n is all room same = put_mid-paste at k l ys ys n refl is (sym all) ∙ sym (stored n (omega arith) room same)
