-- The parts of a record as formats: a number with a limit, signed numbers, one list of levels, all of them.
-- Assumes nothing.
use mathlib.Core.Path.{◌≡◌, refl, sym, ap, subst, ◌∙◌}
use mathlib.Core.List.{List, [], ◌∷◌, ◌++◌, append-nil}
use Prim.Native.Nat.{ℕ, zero, suc, ◌+◌, ◌-◌, ◌≤◌, ◌<◌, ◌^◌}
use native.Mathlib.Omega.{arith}
use borrow.Author.Tests.{leb-true, le-leb}
use lib.Dec.{leb, lit<}
use lib.IntN.{ℤ, pos}
use lib.ListN.{length, get_or, drop, length-append, length-drop, length-replicate, take-append-drop}
use lib.Seq.{take_at, drop_at, get_or-drop}
use Rattle.refusal.specs.Got.{map_got}
use Rattle.refusal.specs.Format.{Format}
use Rattle.refusal.specs.declared.Refusal.TheVariants.{FieldRange}
use Rattle.refusal.proofs.Formats.{renamed}
use Rattle.number.specs.Number.{number}
use Rattle.number.specs.SignedNumber.{SignedNumberRange}
use Rattle.number.proofs.Numbers.{number-format}
use Rattle.number.proofs.SignedNumbers.{signed-format}
use Rattle.levels.specs.Levels.{zeros}
use Rattle.levels.specs.Items.{no_levels, item_start, item_count, ListsRange}
use Rattle.record.specs.Write.{signed_numbers, item_bytes, items_bytes}
use Rattle.record.specs.Parse.{field, read_signeds, parse_item, parse_items}
use Rattle.record.specs.Range.{I32s, ItemRange}
use Rattle.levels.proofs.Turns.{restated, unwritten, tested, followed}
use Rattle.levels.proofs.ListKinds.{start_fits}
use Rattle.levels.proofs.Lists.{lists-format}

-- ---- a number with a limit
pub field-format : (most : ℕ) → most < 2 ^ 32 → Format (field most) number (λ v. v ≤ most)
unfolding field
field-format most h =
    restated (followed number-format (λ v ok. tested (leb v most) FieldRange (λ e. unwritten v)) (λ v. v) (λ v w ok k. k.1))
    (field most) number (λ v. v ≤ most) (λ s. refl) (λ v k. sym (append-nil (number v)))
    (λ v k. leb-true v most k.1.0) (λ v k. (omega arith, (le-leb v most k, refl)))

-- ---- signed numbers
abbrev pub Signeds : ℕ → List ℤ → Type 0
Signeds n zs = (length zs ≡ n) × I32s zs

-- one more in front
longer : (n : ℕ) (z : ℤ) → Format (read_signeds n) signed_numbers (Signeds n)
    → Format (λ s. map_got (λ zs. z ∷ zs) (read_signeds n s)) (λ zs. signed_numbers (drop 1 zs)) (λ zs. (zs ≡ z ∷ drop 1 zs) × Signeds n (drop 1 zs))
longer n z F = renamed F (λ zs. z ∷ zs) (drop 1) (λ zs. (zs ≡ z ∷ drop 1 zs) × Signeds n (drop 1 zs)) (λ zs h. (refl, h)) (λ zs h. h.1) (λ zs h. sym h.0) (λ zs h. refl)

head_tail : (n : ℕ) (zs : List ℤ) → length zs ≡ suc n → zs ≡ get_or zs 0 (pos 0) ∷ drop 1 zs
head_tail n [] e = absurd (omega arith)
head_tail n (z ∷ zs) e = refl

pub signeds-format : (n : ℕ) → Format (read_signeds n) signed_numbers (Signeds n)
unfolding read_signeds signed_numbers
signeds-format zero = restated (unwritten []) (read_signeds 0) signed_numbers (Signeds 0) (λ s. refl) none (λ zs e. rw e (refl, (λ i. lit< tt))) (λ zs h. empty zs h.0)
  where
    empty : (zs : List ℤ) → length zs ≡ 0 → zs ≡ []
    empty [] e = refl
    empty (z ∷ zs) e = absurd (omega arith)

    none : (zs : List ℤ) → Signeds 0 zs → signed_numbers zs ≡ []
    none zs h = ap signed_numbers (empty zs h.0)
signeds-format (suc n) =
    restated (followed signed-format (λ z ok. longer n z (signeds-format n)) (λ zs. get_or zs 0 (pos 0)) (λ z zs ok h. ap (λ (l : List ℤ). get_or l 0 (pos 0)) h.0))
    (read_signeds (suc n)) signed_numbers (Signeds (suc n)) (λ s. refl) (λ zs h. ap signed_numbers (head_tail n zs h.0)) to back
  where
    to : (zs : List ℤ) → SignedNumberRange (get_or zs 0 (pos 0)) × ((zs ≡ get_or zs 0 (pos 0) ∷ drop 1 zs) × Signeds n (drop 1 zs)) → Signeds (suc n) zs
    to zs h = (ap length h.1.0 ∙ ap suc h.1.1.0, each)
      where
        each : I32s zs
        each zero = h.0
        each (suc i) = subst (λ (k : ℤ). SignedNumberRange k) (sym (ap (λ (l : List ℤ). get_or l (suc i) (pos 0)) h.1.0)) (h.1.1.1 i)

    back : (zs : List ℤ) → Signeds (suc n) zs → SignedNumberRange (get_or zs 0 (pos 0)) × ((zs ≡ get_or zs 0 (pos 0) ∷ drop 1 zs) × Signeds n (drop 1 zs))
    back zs h = (h.1 0, (head_tail n zs h.0, (length-drop 1 zs ∙ omega (arith, h.0), (λ i. rw (get_or-drop 1 zs i (pos 0)) (h.1 (1 + i))))))

-- ---- levels
-- one list: the numbers behind its start
module _ (i : ℕ) where
  there : (zs : List ℤ) → Signeds (item_count i - item_start i) zs → ItemRange i (zeros (item_start i) ++ zs)
  unfolding item_count
  there zs h =
      record {
        count = length-append (zeros (item_start i)) zs ∙ omega (arith, length-replicate (item_start i) (pos 0), h.0, start_fits i);
        before = take_at (zeros (item_start i)) zs (item_start i) (length-replicate (item_start i) (pos 0));
        fits = behind (item_start i);
      }
    where
      behind : (n : ℕ) → I32s (zeros n ++ zs)
      behind zero j = h.1 j
      behind (suc n) zero = lit< tt
      behind (suc n) (suc j) = behind n j

  back : (xs : List ℤ) → ItemRange i xs → Signeds (item_count i - item_start i) (drop (item_start i) xs)
  back xs r = (length-drop (item_start i) xs ∙ ap (λ (n : ℕ). n - item_start i) r.count, (λ j. rw (get_or-drop (item_start i) xs j (pos 0)) (r.fits (item_start i + j))))

  item-format : Format (parse_item i) (item_bytes i) (ItemRange i)
  unfolding parse_item item_bytes
  item-format = renamed (signeds-format (item_count i - item_start i)) (λ zs. zeros (item_start i) ++ zs) (drop (item_start i)) (ItemRange i) there back
      (λ xs r. ap (λ (l : List ℤ). l ++ drop (item_start i) xs) (sym r.before) ∙ take-append-drop (item_start i) xs)
      (λ zs h. drop_at (zeros (item_start i)) zs (item_start i) (length-replicate (item_start i) (pos 0)))

pub levels-format : (pattern : ℕ) → Format (parse_items 26 0 pattern no_levels) (items_bytes 26 0 pattern) (ListsRange ItemRange pattern)
unfolding parse_items items_bytes
levels-format pattern = lists-format parse_item item_bytes ItemRange item-format (λ i xs r. r.count) pattern
