-- What a record may hold.
-- Assumes nothing.
use Rattle.std.specs.Prelude.{◌≡◌, List, ℕ, ◌-◌, ◌*◌, ◌≤◌, ◌<◌, ℤ, pos, length, get_or, take, drop}
use Rattle.number.specs.SignedNumber.{SignedNumberRange}
use Rattle.levels.specs.Levels.{zeros}
use Rattle.vectors.specs.Modes.{num_motion_vectors}
use Rattle.record.specs.Record.{Record, skip_record}
use Rattle.record.specs.declared.Head.{Head}
use Rattle.levels.specs.Items.{item_start, item_count, ListsRange}

-- each number is an i32
abbrev pub I32s : List ℤ → Type 0
I32s xs = (i : ℕ) → SignedNumberRange (get_or xs i (pos 0))

-- one list of a record: any i32; 0 at place 0 of an AC list
pub record ItemRange (i : ℕ) (xs : List ℤ) : Type 0 where
  pub count : length xs ≡ item_count i
  pub before : take (item_start i) xs ≡ zeros (item_start i)
  pub fits : I32s xs

-- 32 numbers, of which the first n are used and the others 0
pub record VectorsRange (n : ℕ) (vectors : List ℤ) : Type 0 where
  pub count : length vectors ≡ 32
  pub fits : I32s vectors
  pub others : drop n vectors ≡ zeros (32 - n)

-- what a record that is no skip holds behind its mode
pub record CodedRange (r : Record) : Type 0 where
  pub precision : r.head.precision ≤ 2
  pub clipped : r.head.clipped ≤ 2 * num_motion_vectors r.head.mode
  pub vectors : VectorsRange (2 * num_motion_vectors r.head.mode) r.vectors
  pub pattern : r.head.pattern ≤ 47
  pub quantiser : r.head.quantiser ≤ 31
  pub levels : ListsRange ItemRange r.head.pattern r.levels

-- a record of a grid
pub record RecordRange (cols rows : ℕ) (r : Record) : Type 0 where
  pub column : r.head.column < cols
  pub row : r.head.row < rows
  pub mode : r.head.mode ≤ 7
  pub skipped : r.head.mode ≡ 0 → r ≡ skip_record r.head.column r.head.row
  pub coded : 0 < r.head.mode → CodedRange r

-- a head whose numbers take no more bytes than a record has for them
pub record HeadRange (h : Head) : Type 0 where
  pub column : h.column < 4096
  pub row : h.row < 4096
  pub mode : h.mode ≤ 7
  pub precision : h.precision ≤ 2
  pub clipped : h.clipped ≤ 32
  pub pattern : h.pattern ≤ 47
  pub quantiser : h.quantiser ≤ 31
