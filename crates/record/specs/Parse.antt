-- A record read back from the bytes of a transcript: 14 for a number that is not in its form, 15 for a value outside its field's range.
-- Assumes nothing.
use Rattle.std.specs.Prelude.{◌&&◌, List, [], ◌∷◌, ◌++◌, ℕ, zero, suc, ◌-◌, ◌*◌, eqb, leb, ltb, ℤ}
use Rattle.std.proofs.lemmas.List.Edits.{sets}
use Rattle.ints.specs.Z.{when◌then◌else◌}
use Rattle.refusal.specs.Got.{Got, got, refused, and_then, map_got}
use Rattle.refusal.specs.declared.Refusal.TheVariants.{FieldRange}
use Rattle.number.specs.Number.{read_number}
use Rattle.number.specs.SignedNumber.{read_signed}
use Rattle.levels.specs.Levels.{zeros}
use Rattle.vectors.specs.Modes.{num_motion_vectors}
use Rattle.record.specs.Record.{Record, no_vectors, place_head, with_motion, with_residual, skip_record}
use Rattle.levels.specs.Items.{no_levels, item_start, item_count, read_lists}
use Rattle.record.specs.declared.Head.{Head}

-- a number that is at most `most`
unfoldable pub field : ℕ → List ℕ → Got ℕ
field most s = and_then (read_number s) s (λ v rest. when leb v most then got v 0 else refused FieldRange)

-- n signed numbers
unfoldable pub read_signeds : ℕ → List ℕ → Got (List ℤ)
read_signeds zero s = got [] 0
read_signeds (suc n) s = and_then (read_signed s) s (λ z rest. map_got (λ zs. z ∷ zs) (read_signeds n rest))

-- the levels of a list; an AC list has 0 at place 0, which is not sent
unfoldable pub parse_item : ℕ → List ℕ → Got (List ℤ)
parse_item i s = map_got (λ zs. zeros (item_start i) ++ zs) (read_signeds (item_count i - item_start i) s)

-- the lists as a record has them
unfoldable pub parse_items : ℕ → ℕ → ℕ → List ℤ → List ℕ → Got (List ℤ)
parse_items = read_lists parse_item

-- pattern, quantiser, levels, after all that stands before them
unfoldable pub parse_residual : Head → List ℤ → List ℕ → Got Record
parse_residual h vectors s =
    and_then (field 47 s) s (λ pattern s₁.
    and_then (field 31 s₁) s₁ (λ quantiser s₂.
    map_got (λ levels. record { head = with_residual h pattern quantiser; vectors = vectors; levels = levels }) (parse_items 26 0 pattern no_levels s₂)))

-- precision, clipped count, vectors and what follows, after column, row and mode
unfoldable pub parse_motion : Head → List ℕ → Got Record
parse_motion h s =
    and_then (field 2 s) s (λ precision s₁.
    and_then (field (2 * num_motion_vectors h.mode) s₁) s₁ (λ clipped s₂.
    and_then (read_signeds (2 * num_motion_vectors h.mode) s₂) s₂ (λ vectors s₃.
    parse_residual (with_motion h precision clipped) (sets no_vectors 0 vectors) s₃)))

-- column, row and mode are all read before one of them is judged; every later field is judged as it is read
unfoldable pub parse_record : ℕ → ℕ → List ℕ → Got Record
parse_record cols rows s =
    and_then (read_number s) s (λ column s₁.
    and_then (read_number s₁) s₁ (λ row s₂.
    and_then (read_number s₂) s₂ (λ mode s₃.
    when ltb column cols && ltb row rows && leb mode 7
    then (when eqb mode 0 then got (skip_record column row) 0 else parse_motion (place_head column row mode) s₃)
    else refused FieldRange)))
