-- What the readers of a transcript's numbers hold on their way: a number with a limit, and signed numbers stored one after another.
-- Assumes nothing.
use mathlib.Core.Path.{◌≡◌, refl, sym, ap, ◌∙◌}
use mathlib.Core.List.{List, [], ◌∷◌, ◌++◌, append-nil}
use Prim.Native.Nat.{ℕ, zero, suc, ◌+◌, ◌-◌, ◌≤◌, ◌<◌}
use native.Mathlib.Nat.{add-zero}
use native.Mathlib.Numerals.{add-one}
use native.Mathlib.Omega.{arith}
use borrow.Author.Tests.{le-leb, lt-leb}
use lib.Dec.{leb}
use lib.IntN.{ℤ, pos}
use lib.ListN.{length, take, drop, set, length-set}
use lib.Seq.{sets, drop-drop, set-set}
use borrow.Rule.Slice.PartMut.{put_mid}
use Rattle.std.proofs.lemmas.List.{drop_all}
use Rattle.ints.specs.Z.{when◌then◌else◌}
use Rattle.refusal.specs.Got.{Got, got, refused, after, map_got}
use Rattle.refusal.specs.declared.Refusal.{Refusal}
use Rattle.refusal.specs.declared.Refusal.TheVariants.{FieldRange}
use Rattle.number.specs.Number.{read_number}
use Rattle.refusal.specs.Answered.{answered}
use Rattle.number.specs.SignedNumber.{read_signed}
use Rattle.std.specs.Prelude.{Result, Ok, Err}
use Rattle.refusal.proofs.Answered.{answered-got, answered-refused}
use Rattle.refusal.proofs.Parts.{put-sets, part-length}
use Rattle.levels.specs.Levels.{zeros}
use Rattle.levels.proofs.Gots.{after-after, map-after, map-map}
use Rattle.levels.specs.Items.{item_start, item_count, item_place}
use Rattle.record.specs.Parse.{field, read_signeds, parse_item}
use Rattle.levels.specs.InnerAnswers.{Left}
use Rattle.levels.proofs.Turns.{when_true, when_false}
use Rattle.levels.proofs.ListKinds.{start-most, start-in}
use Rattle.record.proofs.Fields.{signeds-format}
use Rattle.levels.proofs.ItemAnswers.{left_end, left-refused}

-- ---- a number with a limit
module _ (at most : ℕ) (s : List ℕ) where
  read-on : (v n : ℕ) → read_number s ≡ got v n → field most s ≡ after n (when leb v most then got v 0 else refused FieldRange)
  unfolding field
  read-on v n e = rw e

  pub field-within : (v next : ℕ) → Ok (v, next) ≡ answered at (read_number s) → v ≤ most → Ok (v, next) ≡ answered at (field most s)
  field-within v next e h =
      let a = answered-got at (read_number s) v next e in
      ap (λ (n : ℕ). Ok (v, n)) (a.moved ∙ ap (λ (n : ℕ). at + n) (sym (add-zero a.taken))) ∙ sym (ap (answered at) (read-on v a.taken a.is ∙ ap (after a.taken) (when_true (leb v most) (got v 0) (refused FieldRange) (le-leb v most h))))

  pub field-beyond : (v next : ℕ) → Ok (v, next) ≡ answered at (read_number s) → most < v → Err FieldRange ≡ answered at (field most s)
  field-beyond v next e h =
      let a = answered-got at (read_number s) v next e in
      sym (ap (answered at) (read-on v a.taken a.is ∙ ap (after a.taken) (when_false (leb v most) (got v 0) (refused FieldRange) (lt-leb v most h))))

  pub field-refused : (r : Refusal) → Err r ≡ answered at (read_number s) → Err r ≡ answered at (field most s)
  unfolding field
  field-refused r e = rw (answered-refused at (read_number s) r e)

-- ---- signed numbers, stored from the first place on: i of them are, and those behind them are still to be read
module _ (out₀ : List ℤ) (count : ℕ) (s : List ℕ) (at : ℕ) where
  pub record Taking (i p : ℕ) (out : List ℤ) : Type 0 where
    pub is : map_got (sets out₀ 0) (read_signeds count (drop at s)) ≡ after (p - at) (map_got (sets out i) (read_signeds (count - i) (drop p s)))
    pub on : at ≤ p
    pub some : i ≤ count
    pub same : length out ≡ length out₀

module _ {out₀ : List ℤ} {count : ℕ} {s : List ℕ} {at i p : ℕ} {out : List ℤ} (t : Taking out₀ count s at i p out) where
  next-number : i < count → (z : ℤ) (n : ℕ) → read_signed (drop p s) ≡ got z n
      → map_got (sets out i) (read_signeds (count - i) (drop p s)) ≡ after n (map_got (sets (set out i z) (i + 1)) (read_signeds (count - (i + 1)) (drop n (drop p s))))
  unfolding read_signeds
  next-number h z n e =
      let c : count - i ≡ suc (count - (i + 1)) = omega arith in
      rw (c, e)
      (map-after (sets out i) n (map_got (λ zs. z ∷ zs) (read_signeds (count - (i + 1)) (drop n (drop p s))))
      ∙ ap (after n) (map-map (sets out i) (λ zs. z ∷ zs) (sets (set out i z) (i + 1)) (read_signeds (count - (i + 1)) (drop n (drop p s))) (λ zs. ap (λ (k : ℕ). sets (set out i z) k zs) (sym (add-one i)))))

  taken : (z : ℤ) (next : ℕ) → i < count → Ok (z, next) ≡ answered p (read_signed (drop p s)) → Taking out₀ count s at (i + 1) next (set out i z)
  taken z next h e =
      let a = answered-got p (read_signed (drop p s)) z next e in
      let rest : List ℕ → Got (List ℤ) = λ u. map_got (sets (set out i z) (i + 1)) (read_signeds (count - (i + 1)) u) in
      let far : p - at + a.taken ≡ next - at = omega (arith, a.moved, t.on) in
      let there : drop a.taken (drop p s) ≡ drop next s = drop-drop a.taken p s ∙ ap (λ (n : ℕ). drop n s) (sym a.moved) in
      record {
        is = t.is ∙ ap (after (p - at)) (next-number h z a.taken a.is) ∙ after-after (p - at) a.taken (rest (drop a.taken (drop p s)))
            ∙ ap (λ (n : ℕ). after n (rest (drop a.taken (drop p s)))) far ∙ ap (λ (u : List ℕ). after (next - at) (rest u)) there;
        on = omega (arith, a.moved, t.on);
        some = omega arith;
        same = length-set out i z ∙ t.same;
      }

  pub takes : (v z : ℤ) (next : ℕ) → v ≡ z → i < count → Ok (z, next) ≡ answered p (read_signed (drop p s)) → Taking out₀ count s at (i + 1) next (set out i v)
  takes v z next w h e = rw w (taken z next h e)

  pub take-stops : (r : Refusal) (left : List ℤ) → i < count → Err r ≡ answered p (read_signed (drop p s)) → Left at (map_got (sets out₀ 0) (read_signeds count (drop at s))) (Err r) left
  unfolding read_signeds
  take-stops r left h e =
      let c : count - i ≡ suc (count - (i + 1)) = omega arith in
      left-refused at (map_got (sets out₀ 0) (read_signeds count (drop at s))) r left (t.is ∙ rw (c, answered-refused p (read_signed (drop p s)) r e))

  pub take_ends : count ≤ i → Left at (map_got (sets out₀ 0) (read_signeds count (drop at s))) (Ok p) out
  unfolding read_signeds
  take_ends h =
      let c : count - i ≡ 0 = omega arith in
      left_end at (map_got (sets out₀ 0) (read_signeds count (drop at s))) p (p - at + 0) out (t.is ∙ rw c) (omega (arith, t.on))

-- ---- numbers that fill what is lent for them
whole : (out zs : List ℤ) → length zs ≡ length out → sets out 0 zs ≡ zs
whole out zs e = sym (put-sets 0 (length out) out zs e (omega arith)) ∙ ap (λ (t : List ℤ). zs ++ t) (drop_all (length out) out (omega arith)) ∙ append-nil zs

numbers-length : (k : ℕ) (s : List ℕ) (zs : List ℤ) (n : ℕ) → read_signeds k s ≡ got zs n → length zs ≡ k
numbers-length k s zs n e = ((signeds-format k).came s zs n e).in_range.0

module _ (at : ℕ) (s : List ℕ) (answer : Result ℕ Refusal) where
  pub all-filled : (out left : List ℤ) → Left at (map_got (sets out 0) (read_signeds (length out) s)) answer left → Left at (read_signeds (length out) s) answer left
  all-filled out left = go (read_signeds (length out) s) refl
    where
      go : (g : Got (List ℤ)) → read_signeds (length out) s ≡ g → Left at (map_got (sets out 0) g) answer left → Left at g answer left
      go (got zs n) e l =
          let w = l.leaves (sets out 0 zs) n refl ∙ whole out zs (numbers-length (length out) s zs n e) in
          rw l.answers (left_end at (got zs n) (at + n) n left (ap (λ (x : List ℤ). got x n) (sym w)) refl)
      go (refused r) e l = rw l.answers (left-refused at (refused r) r left refl)

  -- a part of a list
  pub part-filled : (xs : List ℤ) (a b k : ℕ) (left : List ℤ) → b ≡ a + k → b ≤ length xs
      → Left at (read_signeds (length (take (b - a) (drop a xs))) s) answer left → Left at (map_got (sets xs a) (read_signeds k s)) answer (put_mid a (b - a) xs left)
  part-filled xs a b k left e h l =
      let z : b - a ≡ k = omega arith in
      let m : length (take (b - a) (drop a xs)) ≡ k = part-length a (b - a) xs (omega arith) ∙ z in
      rw z (go (read_signeds k s) refl (rw m at l))
    where
      go : (g : Got (List ℤ)) → read_signeds k s ≡ g → Left at g answer left → Left at (map_got (sets xs a) g) answer (put_mid a k xs left)
      go (got zs n) f l =
          let w = ap (put_mid a k xs) (l.leaves zs n refl) ∙ put-sets a k xs zs (numbers-length k s zs n f) (omega arith) in
          rw l.answers (left_end at (got (sets xs a zs) n) (at + n) n (put_mid a k xs left) (ap (λ (x : List ℤ). got x n) (sym w)) refl)
      go (refused r) f l = rw l.answers (left-refused at (refused r) r (put_mid a k xs left) refl)

  -- its front
  pub front-filled : (xs : List ℤ) (k : ℕ) (left : List ℤ) → k ≤ length xs → Left at (read_signeds (length (take k xs)) s) answer left → Left at (map_got (sets xs 0) (read_signeds k s)) answer (put_mid 0 k xs left)
  front-filled xs k left h l =
      let z : k - 0 ≡ k = omega arith in
      rw z at (part-filled xs 0 k k left (omega arith) h (rw z l))

-- ---- a list of levels: 0 at its first place, then its numbers from its start on
placed : (ls : List ℤ) (place start : ℕ) (zs : List ℤ) → start ≤ 1 → 1 ≤ start + length zs → sets (set ls place (pos 0)) (place + start) zs ≡ sets ls place (zeros start ++ zs)
placed ls place zero [] h k = absurd (omega arith)
placed ls place zero (z ∷ zs) h k = rw (add-zero place) (ap (λ (l : List ℤ). sets l (suc place) zs) (set-set ls place (pos 0) z))
placed ls place (suc zero) zs h k = ap (λ (n : ℕ). sets (set ls place (pos 0)) n zs) (add-one place)
placed ls place (suc (suc n)) zs h k = absurd (omega arith)

module _ (i at : ℕ) (ls : List ℤ) (s : List ℕ) where
  parsed : map_got (sets (set ls (item_place i) (pos 0)) (item_place i + item_start i)) (read_signeds (item_count i - item_start i) s) ≡ map_got (sets ls (item_place i)) (parse_item i s)
  unfolding parse_item
  parsed = go (read_signeds (item_count i - item_start i) s) refl
    where
      go : (g : Got (List ℤ)) → read_signeds (item_count i - item_start i) s ≡ g
          → map_got (sets (set ls (item_place i) (pos 0)) (item_place i + item_start i)) g ≡ map_got (sets ls (item_place i)) (map_got (λ zs. zeros (item_start i) ++ zs) g)
      go (got zs n) e =
          let l = ((signeds-format (item_count i - item_start i)).came s zs n e).in_range.0 in
          ap (λ (x : List ℤ). got x n) (placed ls (item_place i) (item_start i) zs (start-most i) (omega (arith, l, start-in i)))
      go (refused r) e = refl

  module _ (place start count : ℕ) (answer : Result ℕ Refusal) (left : List ℤ) (p : place ≡ item_place i) (b : start ≡ item_start i) (c : count ≡ item_count i) where
    -- its numbers stored one after another
    pub item-stored : Left at (map_got (sets (set ls place (pos 0)) (place + start)) (read_signeds (count - start) s)) answer left → Left at (map_got (sets ls (item_place i)) (parse_item i s)) answer left
    item-stored l = rw (← parsed, ← p, ← b, ← c) l

    -- and all at once
    pub item-left : Left at (map_got (sets ls place) (map_got (λ zs. zeros start ++ zs) (read_signeds (count - start) s))) answer left → Left at (map_got (sets ls (item_place i)) (parse_item i s)) answer left
    unfolding parse_item
    item-left l = rw (← p, ← b, ← c) l
