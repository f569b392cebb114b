-- How long a record is: at most 2,089 bytes, and never none.
-- Assumes nothing.
use mathlib.Core.Path.{◌≡◌, ap}
use mathlib.Core.Bool.{Bool, true, false}
use mathlib.Core.List.{List, [], ◌∷◌, append_assoc}
use mathlib.Core.Logic.{⊎_elim}
use Prim.Native.Nat.{ℕ, zero, suc, ◌+◌, ◌-◌, ◌*◌, ◌/◌, ◌≤◌, ◌<◌}
use native.Mathlib.Omega.{arith}
use lib.Dec.{eqb, lit<}
use lib.IntN.{ℤ}
use lib.ListN.{length, take, drop, length-append, length-take, length-drop}
use Rattle.ints.specs.Z.{when◌then◌else◌}
use Rattle.number.specs.Number.{number}
use Rattle.number.specs.SignedNumber.{signed_number}
use Rattle.number.proofs.Numbers.{lt-or-le, zero-or-more, one-group, more-groups, one_byte, number-length}
use Rattle.number.proofs.SignedNumbers.{signed-length}
use Rattle.vectors.specs.Modes.{num_motion_vectors}
use Rattle.record.specs.Record.{Record, skip_record}
use Rattle.levels.specs.Items.{item_coded, item_book, item_start, item_count, item_place, item_levels, write_lists}
use Rattle.record.specs.Write.{signed_numbers, item_bytes, items_bytes, rest_bytes, record_bytes}
use Rattle.record.specs.Range.{RecordRange, HeadRange}
use Rattle.record.proofs.Padded.{used-most}

two_bytes : (v : ℕ) → v < 4096 → length (number v) ≤ 2
unfolding number
two_bytes v h = ⊎_elim
    (λ (l : v < 128). rw (one-group 4 v l) (lit< tt))
    (λ (l : 128 ≤ v). rw (more-groups 3 v l, one-group 3 (v / 128) (omega arith)) (lit< tt))
    (lt-or-le v 128)

signeds-length : (zs : List ℤ) → length (signed_numbers zs) ≤ 5 * length zs
unfolding signed_numbers
signeds-length [] = omega arith
signeds-length (z ∷ zs) = omega (arith, length-append (signed_number z) (signed_numbers zs), signed-length z, signeds-length zs)

-- the levels that are written of n lists from the i-th on
abbrev levels_of : ℕ → ℕ → ℕ
levels_of zero i = 0
levels_of (suc n) i = (item_count i - item_start i) + levels_of n (suc i)

item-length : (pattern : ℕ) (levels : List ℤ) (i : ℕ) → length (when item_coded pattern i then item_bytes i (item_levels levels i) else []) ≤ 5 * (item_count i - item_start i)
unfolding when◌then◌else◌ item_bytes item_levels
item-length pattern levels i = go (item_coded pattern i)
  where
    xs : List ℤ
    xs = take (item_count i) (drop (item_place i) levels)

    go : (t : Bool) → length (when t then signed_numbers (drop (item_start i) xs) else []) ≤ 5 * (item_count i - item_start i)
    go true = omega (arith, signeds-length (drop (item_start i) xs), length-drop (item_start i) xs, length-take (item_count i) (drop (item_place i) levels))
    go false = omega arith

lists_length : (n i pattern : ℕ) (levels : List ℤ) → length (write_lists item_bytes n i pattern levels) ≤ 5 * levels_of n i
unfolding write_lists
lists_length zero i pattern levels = omega arith
lists_length (suc n) i pattern levels =
    omega (
      arith,
      length-append (when item_coded pattern i then item_bytes i (item_levels levels i) else []) (write_lists item_bytes n (suc i) pattern levels),
      item-length pattern levels i,
      lists_length n (suc i) pattern levels,
    )

-- 384 levels
items-length : (pattern : ℕ) (levels : List ℤ) → length (items_bytes 26 0 pattern levels) ≤ 1920
unfolding items_bytes item_count item_start item_book when◌then◌else◌
items-length pattern levels = lists_length 26 0 pattern levels

used-length : (r : Record) → r.head.mode ≤ 7 → length (signed_numbers (take (2 * num_motion_vectors r.head.mode) r.vectors)) ≤ 160
used-length r h =
    let n = 2 * num_motion_vectors r.head.mode in
    omega (arith, signeds-length (take n r.vectors), length-take n r.vectors, used-most r.head.mode h)

-- the lengths of the parts, one after another
rest-parts : (r : Record) → length (rest_bytes r) ≡ length (number r.head.precision) + (length (number r.head.clipped)
    + (length (signed_numbers (take (2 * num_motion_vectors r.head.mode) r.vectors)) + (length (number r.head.pattern) + (length (number r.head.quantiser) + length (items_bytes 26 0 r.head.pattern r.levels)))))
unfolding rest_bytes
rest-parts r = simp (append_assoc, length-append)

-- 1 + 1 + 160 + 1 + 1 + 1,920
rest-length : (r : Record) → HeadRange r.head → length (rest_bytes r) ≤ 2084
rest-length r h =
    omega (
      arith,
      rest-parts r,
      one_byte r.head.precision (omega (arith, h.precision)),
      one_byte r.head.clipped (omega (arith, h.clipped)),
      used-length r h.mode,
      one_byte r.head.pattern (omega (arith, h.pattern)),
      one_byte r.head.quantiser (omega (arith, h.quantiser)),
      items-length r.head.pattern r.levels,
    )

record-parts : (r : Record) → length (record_bytes r) ≡ length (number r.head.column) + (length (number r.head.row) + (length (number r.head.mode) + length (when eqb r.head.mode 0 then [] else rest_bytes r)))
unfolding record_bytes
record-parts r = simp (append_assoc, length-append)

-- AT MOST 2,089 BYTES
pub record-length : (r : Record) → HeadRange r.head → length (record_bytes r) ≤ 2089
unfolding when◌then◌else◌
record-length r h =
    omega (arith, record-parts r, two_bytes r.head.column h.column, two_bytes r.head.row h.row, one_byte r.head.mode (omega (arith, h.mode)), go (eqb r.head.mode 0))
  where
    go : (t : Bool) → length (when t then [] else rest_bytes r) ≤ 2084
    go true = omega arith
    go false = rest-length r h

-- and some
pub record-some : (r : Record) → 1 ≤ length (record_bytes r)
record-some r = omega (arith, record-parts r, number-length r.head.column)

-- a record of a grid has such a head
pub head-range : (cols rows : ℕ) (r : Record) → cols ≤ 4096 → rows ≤ 4096 → RecordRange cols rows r → HeadRange r.head
unfolding skip_record
head-range cols rows r h k g = ⊎_elim skip coded (zero-or-more r.head.mode)
  where
    skip : r.head.mode ≡ 0 → HeadRange r.head
    skip z =
        let e = g.skipped z in
        record {
          column = omega (arith, g.column);
          row = omega (arith, g.row);
          mode = g.mode;
          precision = omega (arith, ap (λ (x : Record). x.head.precision) e);
          clipped = omega (arith, ap (λ (x : Record). x.head.clipped) e);
          pattern = omega (arith, ap (λ (x : Record). x.head.pattern) e);
          quantiser = omega (arith, ap (λ (x : Record). x.head.quantiser) e);
        }

    coded : 0 < r.head.mode → HeadRange r.head
    coded z =
        let c = g.coded z in
        record {
          column = omega (arith, g.column);
          row = omega (arith, g.row);
          mode = g.mode;
          precision = c.precision;
          clipped = omega (arith, c.clipped, used-most r.head.mode g.mode);
          pattern = c.pattern;
          quantiser = c.quantiser;
        }
