-- The bits that read to a record, where no component was clipped.
-- Assumes nothing.
use Rattle.std.specs.Prelude.{Bool, ◌&&◌, not, List, [], ◌++◌, ℕ, zero, suc, ◌+◌, ◌*◌, eqb, ℤ, pos, ◌-ℤ◌, get_or}
use Rattle.ints.specs.Z.{when◌then◌else◌}
use Rattle.bits.specs.Signed.{signed_bits}
use Rattle.levels.specs.Pattern.{pattern_bits}
use Rattle.vectors.specs.Modes.{num_motion_vectors}
use Rattle.vectors.specs.Precision.{precision_bits, precision_of}
use Rattle.picture.specs.Field.{Field}
use Rattle.vectors.specs.Difference.{difference_of}
use Rattle.vectors.specs.declared.svq3_mb.Svq3MvPrecision.{Svq3MvPrecision}
use Rattle.state.specs.declared.Call.{Call}
use Rattle.record.specs.Record.{Record}
use Rattle.levels.specs.Items.{items_bits}
use Rattle.state.specs.State.{Context}
use Rattle.reading.specs.Read.{predictor_at, stored_at}

abbrev pub call_of : Record → Call
call_of r = record { column = r.head.column; row = r.head.row; mode = r.head.mode }

-- the differences of n partitions from the i-th on, vertical first
unfoldable pub vector_bits : Call → Svq3MvPrecision → ℕ → ℕ → Field → List ℤ → List Bool
vector_bits call p zero i f vs = []
vector_bits call p (suc n) i f vs =
    let from = predictor_at call f i in
    let vx = get_or vs (2 * i) (pos 0) in
    let vy = get_or vs (2 * i + 1) (pos 0) in
    signed_bits (difference_of p from.y.0 vy) ++ signed_bits (difference_of p from.x.0 vx) ++
    vector_bits call p n (suc i) (stored_at call f i vx vy) vs

unfoldable pub quantiser_bits : Bool → ℕ → ℕ → ℕ → List Bool
quantiser_bits delta q pattern after = when not (eqb pattern 0) && delta then signed_bits (pos after -ℤ pos q) else []

-- of a record that is no skip
unfoldable pub coded_bits : Context → Record → List Bool
coded_bits c r =
    let p = precision_of r.head.precision in
    precision_bits c.halfpel c.thirdpel p ++
    vector_bits (call_of r) p (num_motion_vectors r.head.mode) 0 c.field r.vectors ++
    pattern_bits r.head.pattern ++
    quantiser_bits c.delta c.quantiser r.head.pattern r.head.quantiser ++
    items_bits 26 0 r.head.pattern r.levels

unfoldable pub bits_of : Context → Record → List Bool
bits_of c r = when eqb r.head.mode 0 then [] else coded_bits c r
