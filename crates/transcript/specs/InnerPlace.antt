-- A record's column, row and mode: contracts of inner functions. `not-read`, `skip_read` and `coded-read` of proofs/Places.antt tie them to `parse_record`.
-- Assumes nothing.
use Rattle.std.specs.Prelude.{◌&&◌, List, ℕ, leb, ltb}
use Rattle.ints.specs.Z.{when◌then◌else◌}
use Rattle.refusal.specs.Got.{Got, got, refused, and_then}
use Rattle.refusal.specs.declared.Refusal.TheVariants.{FieldRange}
use Rattle.number.specs.Number.{read_number}
use Rattle.record.specs.Record.{place_head}
use Rattle.record.specs.declared.Head.{Head}

unfoldable pub parse_place : ℕ → ℕ → List ℕ → Got Head
parse_place cols rows s =
    and_then (read_number s) s (λ column s₁.
    and_then (read_number s₁) s₁ (λ row s₂.
    and_then (read_number s₂) s₂ (λ mode s₃.
    when ltb column cols && ltb row rows && leb mode 7 then got (place_head column row mode) 0 else refused FieldRange)))
