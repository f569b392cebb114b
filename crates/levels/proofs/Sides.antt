-- Lists of one kind side by side: luma quadrants, chroma DC and chroma AC, each coded or passed over as a whole; and lists in parts.
-- Assumes nothing.
use mathlib.Core.Path.{◌≡◌, refl, sym, ap, ◌∙◌}
use mathlib.Core.Bool.{Bool, true, false}
use mathlib.Core.List.{List, [], ◌++◌, append_assoc}
use Prim.Native.Nat.{ℕ, zero, suc, ◌+◌, ◌*◌, ◌/◌, ◌≤◌, ◌<◌}
use native.Mathlib.Nat.{add-zero, zero-add}
use native.Mathlib.Omega.{arith}
use borrow.Author.Tests.{lt-ltb, eq-eqb, ne_eqb}
use lib.Dec.{ltb, eqb}
use lib.IntN.{ℤ}
use lib.ListN.{drop}
use lib.Seq.{sets, drop-drop}
use Rattle.ints.specs.Z.{when◌then◌else◌}
use Rattle.refusal.specs.Got.{Got, got, refused, after, and_then, map_got}
use Rattle.levels.specs.Book.{positions}
use Rattle.levels.specs.Levels.{block}
use Rattle.levels.specs.Pattern.{class_of, quadrant_coded}
use Rattle.levels.specs.declared.svq3_coeff.ResidualBook.{ResidualBook}
use Rattle.levels.specs.declared.svq3_coeff.ResidualBook.TheVariants.{NormalScan, ChromaDc}
use Rattle.levels.proofs.Gots.{after-zero, after-after}
use Rattle.levels.specs.Items.{item_coded, item_book, item_start, item_count, item_place, item_levels, read_lists, write_lists, read_item, read_items}
use Rattle.levels.specs.InnerSides.{read_side}
use Rattle.levels.proofs.Turns.{when_true, when_false}
use Rattle.levels.proofs.ListKinds.{is-luma, is-dc, is-ac, luma-group, dc-group, ac-group}
use Rattle.levels.proofs.Lists.{next_place}
use Rattle.levels.proofs.Walks.{one-coded, one-passed}

-- ---- in parts: n lists, then m
module _ {E : Type 0} where
  after_then : (n : ℕ) (g : Got (List ℤ)) (s : List E) (f : List ℤ → List E → Got (List ℤ)) → after n (and_then g (drop n s) f) ≡ and_then (after n g) s f
  after_then n (got xs k) s f =
      after-after n k (f xs (drop k (drop n s))) ∙ ap (λ (u : List E). after (n + k) (f xs u)) (drop-drop k n s)
  after_then n (refused r) s f = refl

  same_then : (g : Got (List ℤ)) (s : List E) {f h : List ℤ → List E → Got (List ℤ)} → ((xs : List ℤ) (t : List E) → f xs t ≡ h xs t) → and_then g s f ≡ and_then g s h
  same_then (got xs n) s e = ap (after n) (e xs (drop n s))
  same_then (refused r) s e = refl

module _ {E : Type 0} (read : ℕ → List E → Got (List ℤ)) (pattern : ℕ) where
  abbrev Parts : ℕ → ℕ → ℕ → Type 0
  Parts n m i = (ls : List ℤ) (s : List E) → read_lists read (n + m) i pattern ls s ≡ and_then (read_lists read n i pattern ls s) s (read_lists read m (i + n) pattern)

  joined : (n m i : ℕ) → Parts n m i → (g : Got (List ℤ)) (s : List E) → and_then g s (read_lists read (n + m) i pattern) ≡ and_then (and_then g s (read_lists read n i pattern)) s (read_lists read m (i + n) pattern)
  joined n m i behind (got xs k) s = ap (after k) (behind xs (drop k s)) ∙ after_then k (read_lists read n i pattern xs (drop k s)) s (read_lists read m (i + n) pattern)
  joined n m i behind (refused r) s = refl

  one_more : (n m i : ℕ) → Parts n m (suc i) → (t : Bool) → item_coded pattern i ≡ t → Parts (suc n) m i
  one_more n m i behind t c ls s =
      let e : suc n + m ≡ suc (n + m) = omega arith in
      let on : i + suc n ≡ suc i + n = omega arith in
      rw (e, on) (go t c)
    where
      go : (t : Bool) → item_coded pattern i ≡ t → read_lists read (suc (n + m)) i pattern ls s ≡ and_then (read_lists read (suc n) i pattern ls s) s (read_lists read m (suc i + n) pattern)
      go true c = one-coded read pattern (n + m) i ls s c ∙ joined n m (suc i) behind (map_got (sets ls (item_place i)) (read i s)) s ∙ ap (λ (g : Got (List ℤ)). and_then g s (read_lists read m (suc i + n) pattern)) (sym (one-coded read pattern n i ls s c))
      go false c = one-passed read pattern (n + m) i ls s c ∙ behind ls s ∙ ap (λ (g : Got (List ℤ)). and_then g s (read_lists read m (suc i + n) pattern)) (sym (one-passed read pattern n i ls s c))

  pub read-parts : (n m i : ℕ) → Parts n m i
  unfolding read_lists
  read-parts zero m i ls s = rw (zero-add m, add-zero i) (sym (after-zero (read_lists read m i pattern ls s)))
  read-parts (suc n) m i ls s = one_more n m i (read-parts n m (suc i)) (item_coded pattern i) refl ls s

pub write-parts : {E : Type 0} (write : ℕ → List ℤ → List E) (pattern n m i : ℕ) (ls : List ℤ) → write_lists write (n + m) i pattern ls ≡ write_lists write n i pattern ls ++ write_lists write m (i + n) pattern ls
unfolding write_lists
write-parts {E} write pattern zero m i ls = rw (zero-add m, add-zero i)
write-parts {E} write pattern (suc n) m i ls =
    let e : suc n + m ≡ suc (n + m) = omega arith in
    let on : i + suc n ≡ suc i + n = omega arith in
    rw (e, on) (ap (λ (l : List E). (when item_coded pattern i then write i (item_levels ls i) else []) ++ l) (write-parts write pattern n m (suc i) ls) ∙ sym (append_assoc (when item_coded pattern i then write i (item_levels ls i) else []) (write_lists write n (suc i) pattern ls) (write_lists write m (suc i + n) pattern ls)))

-- ---- n lists from list i on, of one book and start, coded together or not
pub record Side (book : ResidualBook) (start n i : ℕ) : Type 0 where
  pub most : i + n ≤ 26
  pub kind : (j : ℕ) → i ≤ j → j < i + n → (item_book j ≡ book) × (item_start j ≡ start)
  pub same : (pattern j : ℕ) → i ≤ j → j < i + n → item_coded pattern j ≡ item_coded pattern i

pub luma-side : (q : ℕ) → q < 4 → Side NormalScan 0 4 (4 * q)
luma-side q h = record {
  most = omega arith;
  kind = λ j a b. let k = is-luma j (omega arith) in (k.book, k.start);
  same = λ pattern j a b. (luma-group (4 * q) (4 * q + 4) (omega arith) (omega arith)).same pattern j a b;
}

pub dc-side : Side ChromaDc 0 2 16
dc-side = record {
  most = omega arith;
  kind = λ j a b. let k = is-dc j a b in (k.book, k.start);
  same = (dc-group 16 (omega arith) (omega arith)).same;
}

pub ac-side : Side NormalScan 1 8 18
ac-side = record {
  most = omega arith;
  kind = λ j a b. let k = is-ac j a in (k.book, k.start);
  same = (ac-group 18 (omega arith) (omega arith)).same;
}

module _ (pattern : ℕ) where
  -- each list from i on and before e is coded, or none
  abbrev pub Coded : ℕ → ℕ → Bool → Type 0
  Coded i e t = (j : ℕ) → i ≤ j → j < e → item_coded pattern j ≡ t

  none_read : {E : Type 0} (read : ℕ → List E → Got (List ℤ)) (n i : ℕ) → Coded i (i + n) false → (ls : List ℤ) (s : List E) → read_lists read n i pattern ls s ≡ got ls 0
  unfolding read_lists
  none_read read zero i c ls s = refl
  none_read read (suc n) i c ls s = when_false (item_coded pattern i) _ _ (c i (omega arith) (omega arith)) ∙ none_read read n (suc i) (λ j a b. c j (omega arith) (omega arith)) ls s

  pub none_written : {E : Type 0} (write : ℕ → List ℤ → List E) (n i : ℕ) → Coded i (i + n) false → (ls : List ℤ) → write_lists write n i pattern ls ≡ []
  unfolding write_lists
  none_written {E} write zero i c ls = refl
  none_written {E} write (suc n) i c ls =
      ap (λ (l : List E). l ++ write_lists write n (suc i) pattern ls) (when_false (item_coded pattern i) (write i (item_levels ls i)) [] (c i (omega arith) (omega arith)))
      ∙ none_written write n (suc i) (λ j a b. c j (omega arith) (omega arith)) ls

module _ (book : ResidualBook) (start pattern : ℕ) where
  -- each is of this kind
  abbrev pub Kind : ℕ → ℕ → Type 0
  Kind i e = (j : ℕ) → i ≤ j → j < e → (item_book j ≡ book) × (item_start j ≡ start)

  pub next-side : (i e place : ℕ) → i < e → e ≤ 26 → Kind i e → place ≡ item_place i → place + positions book ≡ item_place (suc i)
  unfolding item_count
  next-side i e place h m k p = rw (p, ← (k i (omega arith) h).0) (sym (next_place i (omega arith)))

  all_read : (n i : ℕ) → i + n ≤ 26 → Kind i (i + n) → Coded pattern i (i + n) true → (place : ℕ) → place ≡ item_place i → (ls : List ℤ) (s : List Bool) → read_lists read_item n i pattern ls s ≡ read_side book start n place ls s
  unfolding read_lists read_side
  all_read zero i m k c place p ls s = refl
  all_read (suc n) i m k c place p ls s =
      let here = k i (omega arith) (omega arith) in
      when_true (item_coded pattern i) _ _ (c i (omega arith) (omega arith))
      ∙ rw (here.0, here.1, ← p) (same_then (block book start s) s
      (λ xs t. all_read n (suc i) (omega arith) (λ j a b. k j (omega arith) (omega arith)) (λ j a b. c j (omega arith) (omega arith)) (place + positions book) (next-side i (i + suc n) place (omega arith) m k p) (sets ls place xs) t))

module _ {book : ResidualBook} {start n i : ℕ} (d : Side book start n i) (pattern : ℕ) where
  pub side-read : item_coded pattern i ≡ true → (place : ℕ) → place ≡ item_place i → (ls : List ℤ) (s : List Bool) → read_items n i pattern ls s ≡ read_side book start n place ls s
  unfolding read_items
  side-read t = all_read book start pattern n i d.most d.kind (λ j a b. d.same pattern j a b ∙ t)

  pub side-unread : item_coded pattern i ≡ false → (ls : List ℤ) (s : List Bool) → read_items n i pattern ls s ≡ got ls 0
  unfolding read_items
  side-unread t = none_read pattern read_item n i (λ j a b. d.same pattern j a b ∙ t)

-- ---- the groups
module _ (pattern : ℕ) where
  pub luma-coded : (q : ℕ) → q < 4 → item_coded pattern (4 * q) ≡ quadrant_coded pattern q
  luma-coded q h =
      let d : 4 * q / 4 ≡ q = omega arith in
      (is-luma (4 * q) (omega arith)).coded pattern ∙ ap (quadrant_coded pattern) d

  dc-coded : item_coded pattern 16 ≡ ltb 0 (class_of pattern)
  dc-coded = (is-dc 16 (omega arith) (omega arith)).coded pattern

  ac-coded : item_coded pattern 18 ≡ eqb (class_of pattern) 2
  ac-coded = (is-ac 18 (omega arith)).coded pattern

pub luma-place : (q : ℕ) → q < 4 → 64 * q ≡ item_place (4 * q)
luma-place q h = sym ((is-luma (4 * q) (omega arith)).place ∙ omega arith)

pub dc-place : 256 ≡ item_place 16
dc-place = sym (is-dc 16 (omega arith) (omega arith)).place

pub ac-place : 264 ≡ item_place 18
ac-place = sym (is-ac 18 (omega arith)).place

-- without a class there is no chroma list, and one list that is not coded reads and writes nothing
pub no-class : (pattern : ℕ) → class_of pattern ≡ 0 → (item_coded pattern 16 ≡ false) × (item_coded pattern 18 ≡ false)
no-class pattern e = (dc-coded pattern ∙ rw e, ac-coded pattern ∙ rw e)

pub some-class : (pattern : ℕ) → (class_of pattern ≡ 0 → ⊥) → item_coded pattern 16 ≡ true
some-class pattern n = dc-coded pattern ∙ lt-ltb 0 (class_of pattern) (omega arith)

pub class-two : (pattern : ℕ) → class_of pattern ≡ 2 → item_coded pattern 18 ≡ true
class-two pattern e = ac-coded pattern ∙ eq-eqb (class_of pattern) 2 e

pub not-class-two : (pattern : ℕ) → (class_of pattern ≡ 2 → ⊥) → item_coded pattern 18 ≡ false
not-class-two pattern n = ac-coded pattern ∙ ne_eqb (class_of pattern) 2 n
