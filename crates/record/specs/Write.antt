-- The bytes of a record.
-- Assumes nothing.
use Rattle.std.specs.Prelude.{List, [], ◌∷◌, ◌++◌, ℕ, ◌*◌, eqb, ℤ, take, drop}
use Rattle.ints.specs.Z.{when◌then◌else◌}
use Rattle.number.specs.Number.{number}
use Rattle.number.specs.SignedNumber.{signed_number}
use Rattle.vectors.specs.Modes.{num_motion_vectors}
use Rattle.record.specs.Record.{Record}
use Rattle.levels.specs.Items.{item_start, write_lists}

-- signed numbers one after another
unfoldable pub signed_numbers : List ℤ → List ℕ
signed_numbers [] = []
signed_numbers (z ∷ zs) = signed_number z ++ signed_numbers zs

-- the levels of a list: all places, of an AC list 1 to 15
unfoldable pub item_bytes : ℕ → List ℤ → List ℕ
item_bytes i xs = signed_numbers (drop (item_start i) xs)

-- the lists as a record has them
unfoldable pub items_bytes : ℕ → ℕ → ℕ → List ℤ → List ℕ
items_bytes = write_lists item_bytes

-- precision, clipped count, each partition's vector, pattern, quantiser afterwards, then levels
unfoldable pub rest_bytes : Record → List ℕ
rest_bytes r =
    number r.head.precision ++ number r.head.clipped ++
    signed_numbers (take (2 * num_motion_vectors r.head.mode) r.vectors) ++
    number r.head.pattern ++ number r.head.quantiser ++ items_bytes 26 0 r.head.pattern r.levels

-- column, row, mode; for mode 0 nothing more
unfoldable pub record_bytes : Record → List ℕ
record_bytes r = number r.head.column ++ number r.head.row ++ number r.head.mode ++ (when eqb r.head.mode 0 then [] else rest_bytes r)
