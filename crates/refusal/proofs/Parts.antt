-- A slice whose part from a place on was written: the stores one after another.
-- Assumes nothing.
use Rattle.std.specs.Prelude.{◌≡◌, List, ◌++◌, ℕ, ◌+◌, ◌-◌, ◌≤◌, length, take, drop}
use mathlib.Core.Path.{sym, ap, ◌∙◌}
use mathlib.Core.List.{append_assoc}
use native.Mathlib.Omega.{arith}
use lib.ListN.{length-drop}
use lib.Seq.{drop-drop, length-take-le}
use borrow.Rule.Slice.PartMut.{put_mid}
use Rattle.std.proofs.lemmas.List.Edits.{sets, sets-eq}

pub put-sets : {X : Type 0} (a k : ℕ) (xs ys : List X) → length ys ≡ k → a + k ≤ length xs → put_mid a k xs ys ≡ sets xs a ys
put-sets a k xs ys e h =
    sym (append_assoc (take a xs) ys (drop k (drop a xs))) ∙ ap (λ t. take a xs ++ ys ++ t) (drop-drop k a xs ∙ ap (λ n. drop (a + n) xs) (sym e)) ∙ sym (sets-eq ys xs a (rw e h))

-- the part has the length asked for
pub part-length : {X : Type 0} (a k : ℕ) (xs : List X) → a + k ≤ length xs → length (take k (drop a xs)) ≡ k
part-length a k xs h = length-take-le k (drop a xs) (omega (arith, length-drop a xs))

-- a part that was written as a whole
pub part-sets : {X : Type 0} (a k : ℕ) (xs ys zs : List X) → ys ≡ zs → length zs ≡ k → a + k ≤ length xs → put_mid a (a + k - a) xs ys ≡ sets xs a zs
part-sets a k xs ys zs e l h = let same : a + k - a ≡ k = omega arith in rw (same, e) (put-sets a k xs zs l h)
