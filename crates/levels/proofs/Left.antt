-- What the levels are behind each list, as the loops go over them, and what each answer says of all the lists.
-- Assumes nothing.
use mathlib.Core.Path.{◌≡◌, refl, sym, ap, ◌∙◌}
use mathlib.Core.Bool.{Bool, true, false}
use mathlib.Core.List.{List}
use Prim.Native.Nat.{ℕ, zero, suc, ◌+◌, ◌-◌, ◌*◌, ◌≤◌, ◌<◌}
use native.Mathlib.Nat.{add-zero, zero-add}
use native.Mathlib.Omega.{arith}
use lib.IntN.{ℤ}
use lib.ListN.{drop}
use lib.Seq.{sets, drop-drop}
use Rattle.refusal.specs.Got.{Got, got, refused, after, and_then, map_got}
use Rattle.refusal.specs.declared.Refusal.{Refusal}
use Rattle.refusal.proofs.Formats.{got-value, never}
use Rattle.levels.specs.Book.{positions}
use Rattle.levels.specs.Pattern.{class_of}
use Rattle.levels.specs.Levels.{zeros, block}
use Rattle.refusal.specs.Answered.{reached}
use Rattle.levels.specs.InnerLevels.{left_in, Decoded}
use Rattle.levels.specs.declared.svq3_coeff.ResidualBook.{ResidualBook}
use Rattle.refusal.specs.declared.Refusal.{Refusal}
use Rattle.std.specs.Prelude.{Result}
use Rattle.std.specs.Prelude.{Ok, Err}
use Rattle.levels.specs.Items.{item_coded, item_count, item_place, read_lists, read_item, read_items}
use Rattle.levels.specs.InnerAnswers.{Left}
use Rattle.levels.specs.InnerSides.{read_side}
use Rattle.levels.specs.InnerLeft.{or_stop, left_items, left_side, Leaves}
use Rattle.levels.proofs.ItemAnswers.{ended, refused-by}
use Rattle.levels.proofs.Turns.{when_true, when_false}
use Rattle.levels.proofs.Walks.{stored, Rest, rest_all, rest-is, rest-on, rest-stops, rest-answer, then-mapped, one-coded, one-passed}
use Rattle.levels.proofs.Sides.{Side, Kind, Coded, next-side, side-read, side-unread, read-parts, dc-side, ac-side, no-class}

-- ---- behind a reading
stop-after : (n : ℕ) (g : Got (List ℤ)) (s : List Bool) (stop : List ℤ) (k : List ℤ → List Bool → List ℤ) → or_stop (after n g) s stop k ≡ or_stop g (drop n s) stop k
stop-after n (got xs m) s stop k = ap (k xs) (sym (drop-drop m n s))
stop-after n (refused r) s stop k = refl

same_stop : (g : Got (List ℤ)) (s : List Bool) (stop : List ℤ) {k h : List ℤ → List Bool → List ℤ} → ((xs : List ℤ) (t : List Bool) → k xs t ≡ h xs t) → or_stop g s stop k ≡ or_stop g s stop h
same_stop (got xs n) s stop e = e xs (drop n s)
same_stop (refused r) s stop e = refl

-- a list that is stored at a place
stop-stored : (ls : List ℤ) (place room : ℕ) (g : Got (List ℤ)) (s : List Bool) (k : List ℤ → List Bool → List ℤ)
    → or_stop g s (sets ls place (zeros room)) (λ found. k (sets ls place found)) ≡ or_stop (map_got (sets ls place) g) s (left_in ls place room g) k
stop-stored ls place room (got xs n) s k = refl
stop-stored ls place room (refused r) s k = refl

-- ---- the 26 lists
module _ (pattern : ℕ) where
  -- one list, of which g was read, then n
  abbrev list_left : ℕ → ℕ → List ℤ → List Bool → Got (List ℤ) → List ℤ
  list_left n i ls s g = or_stop g s (sets ls (item_place i) (zeros (item_count i))) (λ found. left_items n (suc i) pattern (sets ls (item_place i) found))

  abbrev list_read : ℕ → ℕ → List ℤ → List Bool → Got (List ℤ) → Got (List ℤ)
  list_read n i ls s g = and_then (map_got (sets ls (item_place i)) g) s (read_items n (suc i) pattern)

  left-coded : (n i : ℕ) (ls : List ℤ) (s : List Bool) → item_coded pattern i ≡ true → left_items (suc n) i pattern ls s ≡ list_left n i ls s (read_item i s)
  unfolding left_items
  left-coded n i ls s t = when_true (item_coded pattern i) _ _ t

  left_passed : (n i : ℕ) (ls : List ℤ) (s : List Bool) → item_coded pattern i ≡ false → left_items (suc n) i pattern ls s ≡ left_items n (suc i) pattern ls s
  unfolding left_items
  left_passed n i ls s t = when_false (item_coded pattern i) _ _ t

  read-coded : (n i : ℕ) (ls : List ℤ) (s : List Bool) → item_coded pattern i ≡ true → read_items (suc n) i pattern ls s ≡ list_read n i ls s (read_item i s)
  unfolding read_items
  read-coded = one-coded read_item pattern

  read-passed : (n i : ℕ) (ls : List ℤ) (s : List Bool) → item_coded pattern i ≡ false → read_items (suc n) i pattern ls s ≡ read_items n (suc i) pattern ls s
  unfolding read_items
  read-passed = one-passed read_item pattern

  -- WHERE ALL ARE READ, they are what is left
  abbrev Agree : ℕ → ℕ → Type 0
  Agree n i = (ls : List ℤ) (s : List Bool) (xs : List ℤ) (k : ℕ) → read_items n i pattern ls s ≡ got xs k → left_items n i pattern ls s ≡ xs

  agree-more : (n i : ℕ) → Agree n (suc i) → Agree (suc n) i
  agree-more n i behind ls s xs k e = go (item_coded pattern i) refl
    where
      rest : (m : ℕ) (us : List ℤ) (t : List Bool) (g : Got (List ℤ)) → read_items n (suc i) pattern us t ≡ g → after m g ≡ got xs k → left_items n (suc i) pattern us t ≡ xs
      rest m us t (got ys j) r f = behind us t ys j r ∙ got-value f
      rest m us t (refused x) r f = never f

      list : (g : Got (List ℤ)) → list_read n i ls s g ≡ got xs k → list_left n i ls s g ≡ xs
      list (got found m) f = rest m (sets ls (item_place i) found) (drop m s) (read_items n (suc i) pattern (sets ls (item_place i) found) (drop m s)) refl f
      list (refused r) f = never f

      go : (t : Bool) → item_coded pattern i ≡ t → left_items (suc n) i pattern ls s ≡ xs
      go true t = left-coded n i ls s t ∙ list (read_item i s) (sym (read-coded n i ls s t) ∙ e)
      go false t = left_passed n i ls s t ∙ behind ls s xs k (sym (read-passed n i ls s t) ∙ e)

  left-read : (n i : ℕ) → Agree n i
  unfolding read_items read_lists left_items
  left-read zero i = λ ls s xs k e. got-value e
  left-read (suc n) i = agree-more n i (left-read n (suc i))

  -- in parts: n lists, then m
  abbrev Parts : ℕ → ℕ → ℕ → Type 0
  Parts n m i = (ls : List ℤ) (s : List Bool) → left_items (n + m) i pattern ls s ≡ or_stop (read_items n i pattern ls s) s (left_items n i pattern ls s) (left_items m (i + n) pattern)

  one_more : (n m i : ℕ) → Parts n m (suc i) → Parts (suc n) m i
  one_more n m i behind ls s =
      let e : suc n + m ≡ suc (n + m) = omega arith in
      let on : i + suc n ≡ suc i + n = omega arith in
      rw (e, on) (go (item_coded pattern i) refl)
    where
      list : (g : Got (List ℤ)) → list_left (n + m) i ls s g ≡ or_stop (list_read n i ls s g) s (list_left n i ls s g) (left_items m (suc i + n) pattern)
      list (got found k) =
          let us = sets ls (item_place i) found in
          behind us (drop k s) ∙ sym (stop-after k (read_items n (suc i) pattern us (drop k s)) s (left_items n (suc i) pattern us (drop k s)) (left_items m (suc i + n) pattern))
      list (refused r) = refl

      go : (t : Bool) → item_coded pattern i ≡ t → left_items (suc (n + m)) i pattern ls s ≡ or_stop (read_items (suc n) i pattern ls s) s (left_items (suc n) i pattern ls s) (left_items m (suc i + n) pattern)
      go true t = left-coded (n + m) i ls s t ∙ list (read_item i s) ∙ (λ j. or_stop (sym (read-coded n i ls s t) j) s (sym (left-coded n i ls s t) j) (left_items m (suc i + n) pattern))
      go false t = left_passed (n + m) i ls s t ∙ behind ls s ∙ (λ j. or_stop (sym (read-passed n i ls s t) j) s (sym (left_passed n i ls s t) j) (left_items m (suc i + n) pattern))

  left-parts : (n m i : ℕ) → Parts n m i
  unfolding read_items read_lists left_items
  left-parts zero m i = λ ls s. rw (zero-add m, add-zero i)
  left-parts (suc n) m i = one_more n m i (left-parts n m (suc i))

  none_left : (n i : ℕ) → Coded pattern i (i + n) false → (ls : List ℤ) (s : List Bool) → left_items n i pattern ls s ≡ ls
  unfolding left_items
  none_left zero i c ls s = refl
  none_left (suc n) i c ls s = left_passed n i ls s (c i (omega arith) (omega arith)) ∙ none_left n (suc i) (λ j a b. c j (omega arith) (omega arith)) ls s

-- what the answer says of the levels that were read
pub items_left : (n i pattern : ℕ) (ls : List ℤ) (s : List Bool) (at : ℕ) (answer : Result ℕ Refusal) (out : List ℤ) → Leaves (read_items n i pattern) (left_items n i pattern) ls s at answer out → Left at (read_items n i pattern ls (drop at s)) answer out
items_left n i pattern ls s at answer out l = record { answers = l.answers; leaves = λ xs k e. l.leaves ∙ left-read pattern n i ls (drop at s) xs k e }

-- ---- side by side
all_left_lem : (book : ResidualBook) (start pattern n i : ℕ) → i + n ≤ 26 → Kind book start pattern i (i + n) → Coded pattern i (i + n) true → (place : ℕ) → place ≡ item_place i → (ls : List ℤ) (s : List Bool) → left_items n i pattern ls s ≡ left_side book start n place ls s
unfolding left_items left_side item_count
all_left_lem book start pattern zero i m k c place p ls s = refl
all_left_lem book start pattern (suc n) i m k c place p ls s =
    let here = k i (omega arith) (omega arith) in
    left-coded pattern n i ls s (c i (omega arith) (omega arith))
    ∙ rw (here.0, here.1, ← p) (same_stop (block book start s) s (sets ls place (zeros (positions book)))
    (λ xs t. all_left_lem book start pattern n (suc i) (omega arith) (λ j a b. k j (omega arith) (omega arith)) (λ j a b. c j (omega arith) (omega arith)) (place + positions book) (next-side book start pattern i (i + suc n) place (omega arith) m k p) (sets ls place xs) t))

module _ {book : ResidualBook} {start n i : ℕ} (d : Side book start n i) (pattern : ℕ) (ls : List ℤ) (s : List Bool) (at : ℕ) where
  -- a group that is coded, and one that is not
  pub side-leaves : item_coded pattern i ≡ true → (place : ℕ) → place ≡ item_place i → (answer : Result ℕ Refusal) (out : List ℤ) → Leaves (read_side book start n place) (left_side book start n place) ls s at answer out
      → Leaves (read_items n i pattern) (left_items n i pattern) ls s at answer out
  side-leaves t place p answer out l =
      record {
        answers = l.answers ∙ ap (reached at) (sym (side-read d pattern t place p ls (drop at s)));
        leaves = l.leaves ∙ sym (all_left_lem book start pattern n i d.most d.kind (λ j a b. d.same pattern j a b ∙ t) place p ls (drop at s));
      }

  pub side-passed : item_coded pattern i ≡ false → Leaves (read_items n i pattern) (left_items n i pattern) ls s at (Ok at) ls
  side-passed t =
      record {
        answers = ap Ok (sym (add-zero at)) ∙ ap (reached at) (sym (side-unread d pattern t ls (drop at s)));
        leaves = sym (none_left pattern n i (λ j a b. d.same pattern j a b ∙ t) ls (drop at s));
      }

-- ---- reading in parts: before what is still to be read, at the place p
module _ (read : List ℤ → List Bool → Got (List ℤ)) (left : List ℤ → List Bool → List ℤ) (ls₀ : List ℤ) (s : List Bool) (at : ℕ) where
  pub record Goes (p : ℕ) (rest : Got (List ℤ)) (kept : List ℤ) : Type 0 where
    pub goes : Rest (read ls₀ (drop at s)) at p rest
    pub keeps : left ls₀ (drop at s) ≡ kept

  pub goes-all : Goes at (read ls₀ (drop at s)) (left ls₀ (drop at s))
  goes-all = record { goes = rest_all (read ls₀ (drop at s)) at; keeps = refl }

module _ {read : List ℤ → List Bool → Got (List ℤ)} {left : List ℤ → List Bool → List ℤ} {ls₀ : List ℤ} {s : List Bool} {at : ℕ} where
  goes-is : {p : ℕ} {a b : Got (List ℤ)} {x y : List ℤ} → a ≡ b → x ≡ y → Goes read left ls₀ s at p a x → Goes read left ls₀ s at p b y
  goes-is e f g = record { goes = rest-is e g.goes; keeps = g.keeps ∙ f }

  -- a part, which leaves `stop` where it is refused, then what f reads and k leaves behind it
  module _ (p : ℕ) (part : Got (List ℤ)) (stop : List ℤ) (f : List ℤ → List Bool → Got (List ℤ)) (k : List ℤ → List Bool → List ℤ)
      (g : Goes read left ls₀ s at p (and_then part (drop p s) f) (or_stop part (drop p s) stop k)) (answer : Result ℕ Refusal) (out : List ℤ) (l : Left p part answer out) where
    goes_on : (next : ℕ) → answer ≡ Ok next → Goes read left ls₀ s at next (f out (drop next s)) (k out (drop next s))
    goes_on next a =
        let e = ended p part next out (rw a at l) in
        record {
          goes = rest-on s f g.goes answer next out a l;
          keeps = g.keeps ∙ ap (λ (b : Got (List ℤ)). or_stop b (drop p s) stop k) e.is ∙ ap (k out) (drop-drop e.taken p s ∙ ap (λ (n : ℕ). drop n s) (sym e.moved));
        }

    goes-stop : (r : Refusal) → answer ≡ Err r → out ≡ stop → Leaves read left ls₀ s at (Err r) out
    goes-stop r a o =
        let e = refused-by p part r out (rw a at l) in
        record {
          answers = (rest-stops s f g.goes answer r out a l).answers;
          leaves = o ∙ sym (g.keeps ∙ ap (λ (b : Got (List ℤ)). or_stop b (drop p s) stop k) e);
        }

  -- the last part
  pub goes_last : (p : ℕ) (part : Got (List ℤ)) (stop : List ℤ) (answer : Result ℕ Refusal) (out : List ℤ) → Goes read left ls₀ s at p part stop → answer ≡ reached p part → out ≡ stop → Leaves read left ls₀ s at answer out
  goes_last p part stop answer out g a o = record { answers = a ∙ rest-answer (read ls₀ (drop at s)) at p part g.goes; leaves = o ∙ sym g.keeps }

  -- ---- lists side by side, of which the i-th is next
  module _ (book : ResidualBook) (start place count i p : ℕ) (ls : List ℤ)
      (g : Goes read left ls₀ s at p (read_side book start (count - i) (place + positions book * i) ls (drop p s)) (left_side book start (count - i) (place + positions book * i) ls (drop p s))) where
    pub side-ends : count ≤ i → Leaves read left ls₀ s at (Ok p) ls
    unfolding read_side left_side
    side-ends h =
        let z : count - i ≡ 0 = omega arith in
        goes_last p (got ls 0) ls (Ok p) ls (rw z at g) (ap Ok (sym (add-zero p))) refl

    module _ (h : i < count) where
      -- its place, what is read there, and the lists behind it
      abbrev here : ℕ
      here = place + positions book * i

      abbrev list : Got (List ℤ)
      list = block book start (drop p s)

      abbrev read_behind : List ℤ → List Bool → Got (List ℤ)
      read_behind = read_side book start (count - (i + 1)) (place + positions book * (i + 1))

      abbrev left_behind : List ℤ → List Bool → List ℤ
      left_behind = left_side book start (count - (i + 1)) (place + positions book * (i + 1))

      next-list : Goes read left ls₀ s at p (and_then (map_got (sets ls here) list) (drop p s) read_behind) (or_stop (map_got (sets ls here) list) (drop p s) (left_in ls here (positions book) list) left_behind)
      unfolding read_side left_side
      next-list =
          let n : count - i ≡ suc (count - (i + 1)) = omega arith in
          let on : place + positions book * i + positions book ≡ place + positions book * (i + 1) = omega arith in
          goes-is (rw on (then-mapped (sets ls here) list (drop p s) read_behind)) (rw on (stop-stored ls here (positions book) list (drop p s) left_behind)) (rw n at g)

      module _ (answer : Result ℕ Refusal) (out : List ℤ) (d : Decoded p (positions book) list ls here answer out) where
        pub side-on : (next : ℕ) → answer ≡ Ok next → Goes read left ls₀ s at next (read_behind out (drop next s)) (left_behind out (drop next s))
        side-on = goes_on p (map_got (sets ls here) list) (left_in ls here (positions book) list) read_behind left_behind next-list answer out (stored p (positions book) list ls here answer out d)

        pub side-stops : (r : Refusal) → answer ≡ Err r → Leaves read left ls₀ s at (Err r) out
        side-stops r a = goes-stop p (map_got (sets ls here) list) (left_in ls here (positions book) list) read_behind left_behind next-list answer out (stored p (positions book) list ls here answer out d) r a d.leaves

        -- it is the last
        pub side-last : count ≡ i + 1 → Leaves read left ls₀ s at answer out
        unfolding read_side left_side
        side-last e =
            let z : count - (i + 1) ≡ 0 = omega arith in
            goes_last p (map_got (sets ls here) list) (left_in ls here (positions book) list) answer out (goes-is (alone list) (kept list) (rw z at next-list)) (d.answers ∙ same list) d.leaves
          where
            alone : (b : Got (List ℤ)) → and_then (map_got (sets ls here) b) (drop p s) (λ xs t. got xs 0) ≡ map_got (sets ls here) b
            alone (got xs n) = ap (got (sets ls here xs)) (add-zero n)
            alone (refused r) = refl

            kept : (b : Got (List ℤ)) → or_stop (map_got (sets ls here) b) (drop p s) (left_in ls here (positions book) b) (λ xs t. xs) ≡ left_in ls here (positions book) b
            kept (got xs n) = refl
            kept (refused r) = refl

            same : (b : Got (List ℤ)) → reached p b ≡ reached p (map_got (sets ls here) b)
            same (got xs n) = refl
            same (refused r) = refl

  -- ---- n lists, then m, of the 26
  module _ (pattern n m i p : ℕ) (ls : List ℤ) (g : Goes read left ls₀ s at p (read_items (n + m) i pattern ls (drop p s)) (left_items (n + m) i pattern ls (drop p s)))
      (answer : Result ℕ Refusal) (out : List ℤ) (l : Leaves (read_items n i pattern) (left_items n i pattern) ls s p answer out) where
    parts : Goes read left ls₀ s at p (and_then (read_items n i pattern ls (drop p s)) (drop p s) (read_items m (i + n) pattern)) (or_stop (read_items n i pattern ls (drop p s)) (drop p s) (left_items n i pattern ls (drop p s)) (left_items m (i + n) pattern))
    unfolding read_items
    parts = goes-is (read-parts read_item pattern n m i ls (drop p s)) (left-parts pattern n m i ls (drop p s)) g

    pub items-on : (next : ℕ) → answer ≡ Ok next → Goes read left ls₀ s at next (read_items m (i + n) pattern out (drop next s)) (left_items m (i + n) pattern out (drop next s))
    items-on = goes_on p (read_items n i pattern ls (drop p s)) (left_items n i pattern ls (drop p s)) (read_items m (i + n) pattern) (left_items m (i + n) pattern) parts answer out (items_left n i pattern ls s p answer out l)

    pub items-stop : (r : Refusal) → answer ≡ Err r → Leaves read left ls₀ s at (Err r) out
    items-stop r a = goes-stop p (read_items n i pattern ls (drop p s)) (left_items n i pattern ls (drop p s)) (read_items m (i + n) pattern) (left_items m (i + n) pattern) parts answer out (items_left n i pattern ls s p answer out l) r a l.leaves

  -- quadrant q, then what is behind it
  module _ (pattern q p : ℕ) (ls : List ℤ) (h : q < 4) (g : Goes read left ls₀ s at p (read_items (26 - 4 * q) (4 * q) pattern ls (drop p s)) (left_items (26 - 4 * q) (4 * q) pattern ls (drop p s)))
      (answer : Result ℕ Refusal) (out : List ℤ) (l : Leaves (read_items 4 (4 * q) pattern) (left_items 4 (4 * q) pattern) ls s p answer out) where
    quadrant : Goes read left ls₀ s at p (read_items (4 + (26 - 4 * (q + 1))) (4 * q) pattern ls (drop p s)) (left_items (4 + (26 - 4 * (q + 1))) (4 * q) pattern ls (drop p s))
    quadrant = let n : 26 - 4 * q ≡ 4 + (26 - 4 * (q + 1)) = omega arith in rw n at g

    pub quadrant-on : (next : ℕ) → answer ≡ Ok next → Goes read left ls₀ s at next (read_items (26 - 4 * (q + 1)) (4 * (q + 1)) pattern out (drop next s)) (left_items (26 - 4 * (q + 1)) (4 * (q + 1)) pattern out (drop next s))
    quadrant-on next a =
        let on : 4 * q + 4 ≡ 4 * (q + 1) = omega arith in
        rw on at (items-on pattern 4 (26 - 4 * (q + 1)) (4 * q) p ls quadrant answer out l next a)

    pub quadrant-stops : (r : Refusal) → answer ≡ Err r → Leaves read left ls₀ s at (Err r) out
    quadrant-stops = items-stop pattern 4 (26 - 4 * (q + 1)) (4 * q) p ls quadrant answer out l

-- no chroma list is coded
pub no-chroma : (pattern : ℕ) → class_of pattern ≡ 0 → (ls : List ℤ) (s : List Bool) (at : ℕ) → Leaves (read_items 10 16 pattern) (left_items 10 16 pattern) ls s at (Ok at) ls
no-chroma pattern e ls s at =
    let n = no-class pattern e in
    let dc = side-passed dc-side pattern ls s at n.0 in
    let ac = side-passed ac-side pattern ls s at n.1 in
    goes_last at _ _ (Ok at) ls (items-on pattern 2 8 16 at ls (goes-all (read_items 10 16 pattern) (left_items 10 16 pattern) ls s at) (Ok at) ls dc at refl) ac.answers ac.leaves
