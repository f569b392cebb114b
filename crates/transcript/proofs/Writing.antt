-- Bytes written one part after another: what a loop still has to write, and the parts of numbers and lists.
-- Assumes nothing.
use mathlib.Core.Path.{◌≡◌, refl, sym, ap, ◌∙◌}
use mathlib.Core.List.{List, [], ◌∷◌, ◌++◌, append_assoc, append-nil}
use Prim.Native.Nat.{ℕ, suc, ◌+◌, ◌-◌, ◌*◌, ◌≤◌, ◌<◌}
use native.Mathlib.Numerals.{add-one}
use native.Mathlib.Omega.{arith}
use Rattle.std.proofs.lemmas.List.{drop_all, take-append-le, take-append-drop}
use Rattle.std.proofs.Math.Seq.{take-append_seam, drop-append_seam}
use Rattle.levels.proofs.Sets.{drop_of_take}
use borrow.Author.Tests.{ne_eqb}
use lib.Dec.{eqb}
use lib.IntN.{ℤ, pos}
use lib.ListN.{length, get_or, take, drop, length-append, length-take}
use lib.Seq.{sets, length-sets, drop-cons, drop-drop, take-add}
use Rattle.ints.specs.Z.{when◌then◌else◌}
use Rattle.number.specs.Number.{number}
use Rattle.number.specs.SignedNumber.{signed_number}
use Rattle.levels.specs.Book.{positions}
use Rattle.levels.specs.Pattern.{class_of}
use Rattle.levels.specs.declared.svq3_coeff.ResidualBook.{ResidualBook}
use Rattle.levels.specs.declared.svq3_coeff.ResidualBook.TheVariants.{ChromaDc}
use Rattle.vectors.specs.Modes.{num_motion_vectors}
use Rattle.record.specs.Record.{Record, skip_record}
use Rattle.record.proofs.Lengths.{record-length}
use Rattle.levels.specs.Items.{write_lists}
use Rattle.record.specs.Write.{signed_numbers, item_bytes, items_bytes, rest_bytes, record_bytes}
use Rattle.record.specs.InnerSides.{side_bytes}
use Rattle.transcript.specs.Written.{Written}
use Rattle.levels.proofs.Turns.{when_false}
use Rattle.levels.proofs.Sets.{sets-append}
use Rattle.levels.proofs.Sides.{write-parts, dc-side, ac-side, dc-place, no-class, some-class}
use Rattle.record.proofs.SideBytes.{side-written, side-unwritten}

-- ---- one part after another
pub written_on : {out mid left : List ℕ} {at p next : ℕ} {a b : List ℕ} → Written out at a p mid → Written mid p b next left → Written out at (a ++ b) next left
written_on {out} {mid} {left} {at} {p} {next} {a} {b} v w =
    record {
      moved = omega (arith, v.moved, w.moved, length-append a b);
      leaves = w.leaves ∙ ap (λ (l : List ℕ). sets l p b) v.leaves ∙ ap (λ (n : ℕ). sets (sets out at a) n b) v.moved ∙ sym (sets-append out at a b);
    }

pub written_none : (out : List ℕ) (at : ℕ) (bytes : List ℕ) → bytes ≡ [] → Written out at bytes at out
written_none out at bytes e = record { moved = omega (arith, ap length e); leaves = ap (sets out at) (sym e) }

-- ---- a loop: to write `rest` at p is what is left of writing the whole
pub record Still (out₀ : List ℕ) (at : ℕ) (bytes : List ℕ) (out : List ℕ) (p : ℕ) (rest : List ℕ) : Type 0 where
  pub moved : p + length rest ≡ at + length bytes
  pub leaves : sets out p rest ≡ sets out₀ at bytes
  pub same : length out ≡ length out₀

pub still-all : (out : List ℕ) (at : ℕ) (bytes rest : List ℕ) → rest ≡ bytes → Still out at bytes out at rest
still-all out at bytes rest e = record { moved = ap (λ (l : List ℕ). at + length l) e; leaves = ap (sets out at) e; same = refl }

module _ {out₀ : List ℕ} {at : ℕ} {bytes out : List ℕ} {p : ℕ} {rest : List ℕ} (s : Still out₀ at bytes out p rest) where
  -- a part of it is written
  pub still-more : {a b : List ℕ} {next : ℕ} {left : List ℕ} → rest ≡ a ++ b → Written out p a next left → Still out₀ at bytes left next b
  still-more {a} {b} {next} {left} e w =
      record {
        moved = omega (arith, w.moved, s.moved, ap length e ∙ length-append a b);
        leaves = ap (λ (l : List ℕ). sets l next b) w.leaves ∙ ap (λ (n : ℕ). sets (sets out p a) n b) w.moved ∙ sym (sets-append out p a b) ∙ ap (sets out p) (sym e) ∙ s.leaves;
        same = ap length w.leaves ∙ length-sets out p a ∙ s.same;
      }

  -- the part has room
  pub still-fits : (a b : List ℕ) → rest ≡ a ++ b → at + length bytes ≤ length out₀ → p + length a ≤ length out
  still-fits a b e h = omega (arith, s.moved, s.same, ap length e ∙ length-append a b)

  -- all of it has room, and is written
  pub still-room : at + length bytes ≤ length out₀ → p + length rest ≤ length out
  still-room h = omega (arith, s.moved, s.same)

  pub still-last : {next : ℕ} {left : List ℕ} → Written out p rest next left → Written out₀ at bytes next left
  still-last {next} {left} w = record { moved = w.moved ∙ s.moved; leaves = w.leaves ∙ s.leaves }

  pub still-none : rest ≡ [] → Written out₀ at bytes p out
  still-none e = record { moved = omega (arith, s.moved, ap length e); leaves = ap (sets out p) (sym e) ∙ s.leaves }

-- ---- parts that are known one by one
abbrev pub joined : List (List ℕ) → List ℕ
joined [] = []
joined (a ∷ parts) = a ++ joined parts

-- these parts are still to be written
pub record Due (out₀ : List ℕ) (at : ℕ) (bytes : List ℕ) (out : List ℕ) (p : ℕ) (parts : List (List ℕ)) : Type 0 where
  pub still : Still out₀ at bytes out p (joined parts)

pub due_all : (out : List ℕ) (at : ℕ) (bytes : List ℕ) (parts : List (List ℕ)) → bytes ≡ joined parts → Due out at bytes out at parts
due_all out at bytes parts e = record { still = still-all out at bytes (joined parts) (sym e) }

module _ {out₀ : List ℕ} {at : ℕ} {bytes out : List ℕ} {p : ℕ} {a : List ℕ} {parts : List (List ℕ)} (d : Due out₀ at bytes out p (a ∷ parts)) where
  pub due-fits : at + length bytes ≤ length out₀ → p + length a ≤ length out
  due-fits = still-fits d.still a (joined parts) refl

  pub due-next : {next : ℕ} {left : List ℕ} → Written out p a next left → Due out₀ at bytes left next parts
  due-next w = record { still = still-more d.still {a = a} refl w }

  -- as `put_number` says it
  pub due-number : {next : ℕ} {left : List ℕ} → (next ≡ p + length a) × (left ≡ sets out p a) → Due out₀ at bytes left next parts
  due-number w = due-next (record { moved = w.0; leaves = w.1 })

pub due-none : {out₀ : List ℕ} {at : ℕ} {bytes out : List ℕ} {p : ℕ} → Due out₀ at bytes out p [] → Written out₀ at bytes p out
due-none d = still-none d.still refl

-- ---- signed numbers
-- the first of those that are left
first-number : (xs : List ℤ) (i : ℕ) → i < length xs → signed_numbers (drop i xs) ≡ signed_number (get_or xs i (pos 0)) ++ signed_numbers (drop (i + 1) xs)
unfolding signed_numbers
first-number xs i h = rw (drop-cons xs i (pos 0) h, add-one i)

module _ (xs : List ℤ) (i : ℕ) (h : i < length xs) {out₀ : List ℕ} {at : ℕ} {bytes out : List ℕ} {p : ℕ} (s : Still out₀ at bytes out p (signed_numbers (drop i xs))) where
  pub number_fits : (v : ℤ) → v ≡ get_or xs i (pos 0) → at + length bytes ≤ length out₀ → p + length (signed_number v) ≤ length out
  number_fits v e = rw e (still-fits s (signed_number (get_or xs i (pos 0))) (signed_numbers (drop (i + 1) xs)) (first-number xs i h))

  pub number_more : (v : ℤ) → v ≡ get_or xs i (pos 0) → (next : ℕ) (left : List ℕ) → (next ≡ p + length (signed_number v)) × (left ≡ sets out p (signed_number v)) → Still out₀ at bytes left next (signed_numbers (drop (i + 1) xs))
  number_more v e next left w = still-more s {a = signed_number v} (rw e (first-number xs i h)) (record { moved = w.0; leaves = w.1 })

pub no-numbers : (xs : List ℤ) (i : ℕ) → length xs ≤ i → signed_numbers (drop i xs) ≡ []
unfolding signed_numbers
no-numbers xs i h = rw (drop_all i xs h)

-- a part of them is no longer than asked
pub part-most : (xs : List ℤ) (a b k : ℕ) → b ≡ a + k → length (take (b - a) (drop a xs)) ≤ k
part-most xs a b k e = omega (arith, length-take (b - a) (drop a xs))

-- a turn over lists of sixteen: the list, and what is left
pub next-sixteen : (xs : List ℤ) (a n i : ℕ) (x r : List ℤ) → take (n - 16 * i) (drop (a + 16 * i) xs) ≡ x ++ r → length x ≡ 16
    → (x ≡ take 16 (drop (a + 16 * i) xs)) × (r ≡ take (n - 16 * (i + 1)) (drop (a + 16 * (i + 1)) xs)) × (16 * i + 16 ≤ n)
next-sixteen xs a n i x r e l =
    let y = drop (a + 16 * i) xs in
    let m = n - 16 * i in
    let some : 16 ≤ n - 16 * i = omega (arith, ap length e, length-take (n - 16 * i) (drop (a + 16 * i) xs), length-append x r, l) in
    let long : 16 ≤ length (take m y) = omega (arith, ap length e, length-append x r, l) in
    let less : n - 16 * i - 16 ≡ n - 16 * (i + 1) = omega arith in
    let on : a + 16 * i + 16 ≡ a + 16 * (i + 1) = omega arith in (
      sym (rw l at (take-append_seam x r)) ∙ ap (take 16) (sym e) ∙ sym (take-append-le 16 (take m y) (drop m y) long) ∙ ap (take 16) (take-append-drop m y),
      sym (rw l at (drop-append_seam x r)) ∙ ap (drop 16) (sym e) ∙ drop_of_take 16 m y ∙ rw (drop-drop 16 (a + 16 * i) xs, less, on),
      omega arith,
    )

in_parts : (ys zs : List ℤ) → signed_numbers (ys ++ zs) ≡ signed_numbers ys ++ signed_numbers zs
unfolding signed_numbers
in_parts [] zs = refl
in_parts (y ∷ ys) zs = ap (λ (l : List ℕ). signed_number y ++ l) (in_parts ys zs) ∙ sym (append_assoc (signed_number y) (signed_numbers ys) (signed_numbers zs))

-- n numbers, then m
pub numbers-parts : (n m first : ℕ) (xs : List ℤ) → signed_numbers (take (n + m) (drop first xs)) ≡ signed_numbers (take n (drop first xs)) ++ signed_numbers (take m (drop (first + n) xs))
numbers-parts n m first xs =
    ap signed_numbers (take-add n m (drop first xs)) ∙ in_parts (take n (drop first xs)) (take m (drop n (drop first xs))) ∙ ap (λ (l : List ℤ). signed_numbers (take n (drop first xs)) ++ signed_numbers (take m l)) (drop-drop n first xs)

-- ---- lists side by side
module _ (book : ResidualBook) (start : ℕ) (ls : List ℤ) where
  -- the bytes of one
  abbrev pub one_list : ℕ → List ℕ
  one_list place = signed_numbers (take (positions book - start) (drop (place + start) ls))

  -- the first of those that are left
  pub first-list : (place count i size : ℕ) → size ≡ positions book → i < count
      → side_bytes book start (count - i) (place + size * i) ls ≡ one_list (place + size * i) ++ side_bytes book start (count - (i + 1)) (place + size * (i + 1)) ls
  unfolding side_bytes
  first-list place count i size e h =
      let n : count - i ≡ suc (count - (i + 1)) = omega arith in
      let on : place + size * i + size ≡ place + size * (i + 1) = omega arith in
      rw n (ap (λ (k : ℕ). one_list (place + size * i) ++ side_bytes book start (count - (i + 1)) k ls) (ap (λ (k : ℕ). place + size * i + k) (sym e) ∙ on))

  pub no-list : (place count i : ℕ) → count ≤ i → side_bytes book start (count - i) place ls ≡ []
  unfolding side_bytes
  no-list place count i h =
      let e : count - i ≡ 0 = omega arith in
      rw e

-- Cb DC and Cr DC are eight numbers in a row
pub both-dc : (ls : List ℤ) → side_bytes ChromaDc 0 2 256 ls ≡ signed_numbers (take 8 (drop 256 ls))
unfolding side_bytes
both-dc ls = ap (λ (l : List ℕ). signed_numbers (take 4 (drop 256 ls)) ++ l) (append-nil (signed_numbers (take 4 (drop 260 ls)))) ∙ sym (numbers-parts 4 4 256 ls)

-- ---- the groups
module _ (pattern : ℕ) (ls : List ℤ) where
  -- quadrant q, then what is behind it
  pub quadrant-bytes : (q : ℕ) → q < 4 → items_bytes (26 - 4 * q) (4 * q) pattern ls ≡ items_bytes 4 (4 * q) pattern ls ++ items_bytes (26 - 4 * (q + 1)) (4 * (q + 1)) pattern ls
  unfolding items_bytes
  quadrant-bytes q h =
      let n : 26 - 4 * q ≡ 4 + (26 - 4 * (q + 1)) = omega arith in
      let on : 4 * q + 4 ≡ 4 * (q + 1) = omega arith in
      rw n (write-parts item_bytes pattern 4 (26 - 4 * (q + 1)) (4 * q) ls ∙ ap (λ (k : ℕ). write_lists item_bytes 4 (4 * q) pattern ls ++ write_lists item_bytes (26 - 4 * (q + 1)) k pattern ls) on)

  -- chroma DC, then chroma AC
  chroma-bytes : items_bytes 10 16 pattern ls ≡ items_bytes 2 16 pattern ls ++ items_bytes 8 18 pattern ls
  unfolding items_bytes
  chroma-bytes = write-parts item_bytes pattern 2 8 16 ls

  pub no-chroma-bytes : class_of pattern ≡ 0 → items_bytes 10 16 pattern ls ≡ []
  no-chroma-bytes e =
      let n = no-class pattern e in
      chroma-bytes ∙ rw (side-unwritten dc-side pattern n.0 ls, side-unwritten ac-side pattern n.1 ls)

  dc-bytes : (class_of pattern ≡ 0 → ⊥) → items_bytes 10 16 pattern ls ≡ signed_numbers (take 8 (drop 256 ls)) ++ items_bytes 8 18 pattern ls
  dc-bytes e = chroma-bytes ∙ ap (λ (l : List ℕ). l ++ items_bytes 8 18 pattern ls) (side-written dc-side pattern (some-class pattern e) 256 dc-place ls ∙ both-dc ls)

  -- chroma DC is written
  pub dc-fits : (out : List ℕ) (at : ℕ) → (class_of pattern ≡ 0 → ⊥) → at + length (items_bytes 10 16 pattern ls) ≤ length out → at + length (signed_numbers (take 8 (drop 256 ls))) ≤ length out
  dc-fits out at e h = omega (arith, ap length (dc-bytes e) ∙ length-append (signed_numbers (take 8 (drop 256 ls))) (items_bytes 8 18 pattern ls))

  pub dc-still : {out mid : List ℕ} {at p : ℕ} → (class_of pattern ≡ 0 → ⊥) → Written out at (signed_numbers (take 8 (drop 256 ls))) p mid → Still out at (items_bytes 10 16 pattern ls) mid p (items_bytes 8 18 pattern ls)
  dc-still {out} {mid} {at} e w = still-more (still-all out at (items_bytes 10 16 pattern ls) (items_bytes 10 16 pattern ls) refl) (dc-bytes e) w

-- ---- a record
pub rest-parts : (r : Record) → rest_bytes r ≡ joined (number r.head.precision ∷ number r.head.clipped ∷ signed_numbers (take (2 * num_motion_vectors r.head.mode) r.vectors)
    ∷ number r.head.pattern ∷ number r.head.quantiser ∷ items_bytes 26 0 r.head.pattern r.levels ∷ [])
unfolding rest_bytes
rest-parts r = simp (append_assoc, append-nil)

-- no skip: the rest follows its mode
pub coded-parts : (r : Record) → 0 < r.head.mode → record_bytes r ≡ joined (number r.head.column ∷ number r.head.row ∷ number r.head.mode ∷ rest_bytes r ∷ [])
unfolding record_bytes
coded-parts r h = rw (when_false (eqb r.head.mode 0) [] (rest_bytes r) (ne_eqb r.head.mode 0 (omega arith))) (simp (append_assoc, append-nil))

-- a skip: its place and mode 0
pub skip-parts : (column row : ℕ) → record_bytes (skip_record column row) ≡ joined (number column ∷ number row ∷ number 0 ∷ [])
unfolding record_bytes skip_record when◌then◌else◌
skip-parts column row = simp (append_assoc, append-nil)

pub skip-length : (column row : ℕ) → column < 4096 → row < 4096 → length (record_bytes (skip_record column row)) ≤ 2089
unfolding skip_record
skip-length column row h k =
    record-length (skip_record column row)
    (record { column = h; row = k; mode = omega arith; precision = omega arith; clipped = omega arith; pattern = omega arith; quantiser = omega arith })
