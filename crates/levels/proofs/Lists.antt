-- The 26 lists tile the 392 places; where each list is a format, they are one, read and put one after another.
-- Assumes nothing.
use mathlib.Core.Path.{◌≡◌, refl, sym, ap, subst, ◌∙◌}
use mathlib.Core.Bool.{Bool, true, false}
use mathlib.Core.List.{List, [], ◌++◌}
use mathlib.Core.Logic.{⊎_elim}
use Prim.Native.Nat.{ℕ, zero, suc, ◌+◌, ◌≤◌, ◌<◌}
use native.Mathlib.Nat.{eq-or-lt_of_le}
use native.Mathlib.Omega.{arith}
use lib.Dec.{eqb, leb, eqb→eq, leb→le}
use lib.IntN.{ℤ, pos}
use lib.ListN.{length, take, drop}
use lib.Seq.{sets, length-sets, take-add, take_all, take-take, length-take-le}
use Rattle.ints.specs.Z.{when◌then◌else◌}
use Rattle.refusal.specs.Got.{Got, got}
use Rattle.refusal.specs.Format.{Format}
use Rattle.levels.proofs.ShortTable.{at}
use Rattle.levels.specs.Levels.{zeros}
use Rattle.levels.specs.Items.{no_levels, item_coded, item_book, item_count, item_place, item_levels, read_lists, write_lists, ListsRange}
use Rattle.levels.proofs.Turns.{when_true, when_false, not-both, restated, unwritten, followed}
use Rattle.levels.proofs.Sets.{take-sets, drop-sets, take-through, same_more, part-after, part-of-same}

-- ---- places
right_place : ℕ → Bool
right_place i = eqb (item_place (suc i)) (item_place i + item_count i)

-- each list begins where the one before it ends, the first at 0, and the last ends at 392
pub next_place : (i : ℕ) → i < 26 → item_place (suc i) ≡ item_place i + item_count i
unfolding right_place item_place item_count item_book when◌then◌else◌
next_place i h = eqb→eq (item_place (suc i)) (item_place i + item_count i) (at right_place 26 tt i h)

right_end : ℕ → Bool
right_end i = leb (item_place i + item_count i) 392

pub within : (i : ℕ) → i < 26 → item_place i + item_count i ≤ 392
unfolding right_end item_place item_count item_book when◌then◌else◌
within i h = leb→le (item_place i + item_count i) 392 (at right_end 26 tt i h)

first-place : item_place 0 ≡ 0
unfolding item_place when◌then◌else◌
first-place = refl

last-place : item_place 26 ≡ 392
unfolding item_place when◌then◌else◌
last-place = refl

-- among zeros
pub length-no_levels : length no_levels ≡ 392
unfolding no_levels
length-no_levels = refl

no_item : (i : ℕ) → i < 26 → item_levels no_levels i ≡ zeros (item_count i)
unfolding item_levels no_levels
no_item i h = part-of-same (item_count i) (item_place i) 392 (pos 0) (within i h)

-- ---- one list put at its place
module _ (ls : List ℤ) (i : ℕ) (xs : List ℤ) (whole : length ls ≡ 392) (h : i < 26) (e : length xs ≡ item_count i) where
  fits : item_place i + length xs ≤ length ls
  fits = omega (arith, within i h)

  through : take (item_place (suc i)) (sets ls (item_place i) xs) ≡ take (item_place i) ls ++ xs
  through = ap (λ (n : ℕ). take n (sets ls (item_place i) xs)) (next_place i h ∙ ap (λ (n : ℕ). item_place i + n) (sym e)) ∙ take-through ls (item_place i) xs fits

  -- whatever agrees with it up to the next place has it
  put_item : (x : List ℤ) → length x ≡ 392 → take (item_place (suc i)) x ≡ take (item_place (suc i)) (sets ls (item_place i) xs) → item_levels x i ≡ xs
  unfolding item_levels
  put_item x n p =
      part-after (item_place i) (item_count i) x (take (item_place i) ls) xs (length-take-le (item_place i) ls (omega (arith, within i h))) (omega (arith, within i h))
      (ap (λ (k : ℕ). take k x) (sym (next_place i h)) ∙ p ∙ through)

-- a later place
place-le : (i j : ℕ) → i < 26 → i < j → j < 26 → item_place i + item_count i ≤ item_place j
place-le i zero h k l = absurd (omega arith)
place-le i (suc j) h k l = ⊎_elim
    (λ (e : i ≡ j). rw (← e) (omega (arith, next_place i h)))
    (λ (m : i < j). omega (arith, place-le i j h m (omega arith), next_place j (omega arith)))
    (eq-or-lt_of_le (omega arith))

-- the lists behind it are as they were
other_item : (ls : List ℤ) (i j : ℕ) (xs : List ℤ) → length xs ≡ item_count i → i < j → j < 26 → item_levels (sets ls (item_place i) xs) j ≡ item_levels ls j
unfolding item_levels
other_item ls i j xs e h l = ap (take (item_count j)) (drop-sets (item_place j) ls (item_place i) xs (omega (arith, place-le i j (omega arith) h l)))

-- two that agree up to the next place have the same list there
same_item : (x y : List ℤ) (i : ℕ) → i < 26 → length x ≡ 392 → length y ≡ 392 → take (item_place (suc i)) x ≡ take (item_place (suc i)) y → item_levels x i ≡ item_levels y i
unfolding item_levels
same_item x y i h m n p =
    part-after (item_place i) (item_count i) x (take (item_place i) y) (take (item_count i) (drop (item_place i) y)) (length-take-le (item_place i) y (omega (arith, within i h))) (omega (arith, within i h))
    (ap (λ (k : ℕ). take k x) (sym (next_place i h)) ∙ p ∙ ap (λ (k : ℕ). take k y) (next_place i h) ∙ take-add (item_place i) (item_count i) y)

before-item : (x y : List ℤ) (i : ℕ) → i < 26 → take (item_place (suc i)) x ≡ take (item_place (suc i)) y → take (item_place i) x ≡ take (item_place i) y
before-item x y i h p =
    let l : item_place i ≤ item_place (suc i) = omega (arith, next_place i h) in
    sym (take-take (item_place i) (item_place (suc i)) x l) ∙ ap (take (item_place i)) p ∙ take-take (item_place i) (item_place (suc i)) y l

-- and the other way round
through-item : (x y : List ℤ) (i : ℕ) → i < 26 → take (item_place i) x ≡ take (item_place i) y → item_levels x i ≡ item_levels y i → take (item_place (suc i)) x ≡ take (item_place (suc i)) y
unfolding item_levels
through-item x y i h p q = rw (next_place i h) (same_more (item_place i) (item_count i) x y p q)

-- ---- lists that are formats
module _ {E : Type 0} (read : ℕ → List E → Got (List ℤ)) (write : ℕ → List ℤ → List E) (fine : ℕ → List ℤ → Type 0)
    (format : (i : ℕ) → Format (read i) (write i) (fine i)) (sized : (i : ℕ) (xs : List ℤ) → fine i xs → length xs ≡ item_count i) (pattern : ℕ) where
  -- x is ls before list i; of the n lists from there on the coded ones are fine, and the others are those of ls
  record Fills (n i : ℕ) (ls x : List ℤ) : Type 0 where
    count : length x ≡ 392
    before : take (item_place i) x ≡ take (item_place i) ls
    coded : (j : ℕ) → i ≤ j → j < i + n → item_coded pattern j ≡ true → fine j (item_levels x j)
    others : (j : ℕ) → i ≤ j → j < i + n → item_coded pattern j ≡ false → item_levels x j ≡ item_levels ls j

  module _ (n i : ℕ) (all : i + suc n ≡ 26) (ls : List ℤ) (whole : length ls ≡ 392) where
    i<26 : i < 26
    i<26 = omega arith

    -- list i is coded
    take_in : item_coded pattern i ≡ true → (x : List ℤ) → fine i (item_levels x i) × Fills n (suc i) (sets ls (item_place i) (item_levels x i)) x → Fills (suc n) i ls x
    take_in t x h =
        let f = h.1 in
        let xs = item_levels x i in
        let e : length xs ≡ item_count i = sized i xs h.0 in
        record {
          count = f.count;
          before = before-item x (sets ls (item_place i) xs) i i<26 f.before ∙ take-sets (item_place i) ls (item_place i) xs (omega arith);
          coded = λ j a b c. ⊎_elim (λ (p : i ≡ j). subst (λ (k : ℕ). fine k (item_levels x k)) p h.0) (λ (p : i < j). f.coded j p (omega arith) c) (eq-or-lt_of_le a);
          others = λ j a b c. ⊎_elim
              (λ (p : i ≡ j). not-both (subst (λ (k : ℕ). item_coded pattern k ≡ true) p t) c)
              (λ (p : i < j). f.others j p (omega arith) c ∙ other_item ls i j xs e p (omega arith)) (eq-or-lt_of_le a);
        }

    take_out : item_coded pattern i ≡ true → (x : List ℤ) → Fills (suc n) i ls x → fine i (item_levels x i) × Fills n (suc i) (sets ls (item_place i) (item_levels x i)) x
    take_out t x f =
        let xs = item_levels x i in
        let ok = f.coded i (omega arith) (omega arith) t in
        let e : length xs ≡ item_count i = sized i xs ok in
        let ls' = sets ls (item_place i) xs in (
          ok,
          record {
            count = f.count;
            before = through-item x ls' i i<26 (f.before ∙ sym (take-sets (item_place i) ls (item_place i) xs (omega arith)))
                (sym (put_item ls i xs whole i<26 e ls' (length-sets ls (item_place i) xs ∙ whole) refl));
            coded = λ j a b c. f.coded j (omega arith) (omega arith) c;
            others = λ j a b c. f.others j (omega arith) (omega arith) c ∙ sym (other_item ls i j xs e a (omega arith));
          },
        )

    -- list i is not
    pass-in : item_coded pattern i ≡ false → (x : List ℤ) → Fills n (suc i) ls x → Fills (suc n) i ls x
    pass-in t x f =
        record {
          count = f.count;
          before = before-item x ls i i<26 f.before;
          coded = λ j a b c. ⊎_elim (λ (p : i ≡ j). not-both c (subst (λ (k : ℕ). item_coded pattern k ≡ false) p t)) (λ (p : i < j). f.coded j p (omega arith) c) (eq-or-lt_of_le a);
          others = λ j a b c. ⊎_elim
              (λ (p : i ≡ j). subst (λ (k : ℕ). item_levels x k ≡ item_levels ls k) p (same_item x ls i i<26 f.count whole f.before))
              (λ (p : i < j). f.others j p (omega arith) c) (eq-or-lt_of_le a);
        }

    pass-out : item_coded pattern i ≡ false → (x : List ℤ) → Fills (suc n) i ls x → Fills n (suc i) ls x
    pass-out t x f =
        record {
          count = f.count;
          before = through-item x ls i i<26 f.before (f.others i (omega arith) (omega arith) t);
          coded = λ j a b c. f.coded j (omega arith) (omega arith) c;
          others = λ j a b c. f.others j (omega arith) (omega arith) c;
        }

  -- no list is left
  none_in : (i : ℕ) → i + 0 ≡ 26 → (ls : List ℤ) → length ls ≡ 392 → (x : List ℤ) → x ≡ ls → Fills 0 i ls x
  none_in i all ls whole x e =
      record { count = ap length e ∙ whole; before = ap (take (item_place i)) e; coded = λ j a b. absurd (omega arith); others = λ j a b. absurd (omega arith) }

  none_out : (i : ℕ) → i + 0 ≡ 26 → (ls : List ℤ) → length ls ≡ 392 → (x : List ℤ) → Fills 0 i ls x → x ≡ ls
  none_out i all ls whole x f =
      let e : item_place i ≡ 392 = ap item_place (omega arith) ∙ last-place in
      sym (take_all (item_place i) x (omega (arith, f.count))) ∙ f.before ∙ take_all (item_place i) ls (omega arith)

  from-item : (n i : ℕ) → i + n ≡ 26 → (ls : List ℤ) → length ls ≡ 392 → Format (read_lists read n i pattern ls) (write_lists write n i pattern) (Fills n i ls)
  unfolding read_lists write_lists
  from-item zero i all ls whole = restated (unwritten ls) (λ s. got ls 0) (λ x. []) (Fills 0 i ls) (λ s. refl) (λ x h. refl) (none_in i all ls whole) (none_out i all ls whole)
  from-item (suc n) i all ls whole = go (item_coded pattern i) refl (λ ls whole. from-item n (suc i) (omega arith) ls whole)
    where
      go : (t : Bool) → item_coded pattern i ≡ t → ((ls : List ℤ) → length ls ≡ 392 → Format (read_lists read n (suc i) pattern ls) (write_lists write n (suc i) pattern) (Fills n (suc i) ls))
          → Format (read_lists read (suc n) i pattern ls) (write_lists write (suc n) i pattern) (Fills (suc n) i ls)
      go true t rest =
          restated
          (followed (format i) (λ xs ok. rest (sets ls (item_place i) xs) (length-sets ls (item_place i) xs ∙ whole)) (λ x. item_levels x i)
          (λ xs x ok f. put_item ls i xs whole (i<26 n i all ls whole) (sized i xs ok) x f.count f.before))
          (read_lists read (suc n) i pattern ls) (write_lists write (suc n) i pattern) (Fills (suc n) i ls)
          (λ s. when_true (item_coded pattern i) _ _ t)
          (λ x f. ap (λ (w : List E). w ++ write_lists write n (suc i) pattern x) (when_true (item_coded pattern i) _ _ t))
          (take_in n i all ls whole t) (take_out n i all ls whole t)
      go false t rest =
          restated (rest ls whole) (read_lists read (suc n) i pattern ls) (write_lists write (suc n) i pattern) (Fills (suc n) i ls)
          (λ s. when_false (item_coded pattern i) _ _ t)
          (λ x f. ap (λ (w : List E). w ++ write_lists write n (suc i) pattern x) (when_false (item_coded pattern i) _ _ t))
          (pass-in n i all ls whole t) (pass-out n i all ls whole t)

  -- ALL LISTS, put into zeros
  pub lists-format : Format (read_lists read 26 0 pattern no_levels) (write_lists write 26 0 pattern) (ListsRange fine pattern)
  lists-format =
      restated (from-item 26 0 refl no_levels length-no_levels) (read_lists read 26 0 pattern no_levels) (write_lists write 26 0 pattern) (ListsRange fine pattern) (λ s. refl) (λ x h. refl)
      (λ x f. record {
        count = f.count;
        coded = λ i h c. f.coded i (omega arith) (omega arith) c;
        others = λ i h c. f.others i (omega arith) (omega arith) c ∙ no_item i h;
      })
      (λ x r. record {
        count = r.count;
        before = rw first-place;
        coded = λ j a b c. r.coded j (omega arith) c;
        others = λ j a b c. r.others j (omega arith) c ∙ sym (no_item j (omega arith));
      })
