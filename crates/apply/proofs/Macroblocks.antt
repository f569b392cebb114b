-- What a record does to a plane, by its mode.
-- Assumes nothing.
use mathlib.Core.Path.{◌≡◌, refl}
use mathlib.Core.Logic.{◌≢◌}
use mathlib.Core.List.{List}
use Prim.Native.Nat.{ℕ, ◌*◌, ◌≤◌, ◌<◌}
use native.Mathlib.Omega.{arith}
use borrow.Author.Tests.{eq-eqb, ne_eqb}
use Rattle.ints.specs.Z.{when◌then◌else◌}
use Rattle.picture.specs.Picture.{copied}
use Rattle.picture.specs.InnerPicture.{Within}
use Rattle.vectors.specs.Modes.{num_motion_vectors}
use Rattle.record.specs.Record.{Record, skip_record}
use Rattle.record.specs.Range.{RecordRange}
use Rattle.reading.specs.Bits.{call_of}
use Rattle.apply.specs.Moved.{moved_up_to}
use Rattle.apply.specs.Blocks.{luma_up_to, chroma_added}
use Rattle.apply.specs.Apply.{applied_luma, applied_chroma}

module _ (cols rows : ℕ) (ref : List ℕ) (r : Record) (pic : List ℕ) where
  pub skip-luma : r.head.mode ≡ 0 → applied_luma cols rows ref r pic ≡ copied pic (16 * cols) (16 * r.head.column) (16 * r.head.row) 16 16 ref
  unfolding applied_luma when◌then◌else◌
  skip-luma e = rw (eq-eqb r.head.mode 0 e)

  pub coded-luma : r.head.mode ≢ 0 → applied_luma cols rows ref r pic ≡ luma_up_to 16 cols r.head r.levels (moved_up_to (num_motion_vectors r.head.mode) 1 cols rows ref (call_of r) r.vectors pic)
  unfolding applied_luma when◌then◌else◌
  coded-luma e = rw (ne_eqb r.head.mode 0 e)

  pub skip-chroma : (plane : ℕ) → r.head.mode ≡ 0 → applied_chroma plane cols rows ref r pic ≡ copied pic (8 * cols) (8 * r.head.column) (8 * r.head.row) 8 8 ref
  unfolding applied_chroma when◌then◌else◌
  skip-chroma plane e = rw (eq-eqb r.head.mode 0 e)

  pub coded-chroma : (plane : ℕ) → r.head.mode ≢ 0 → applied_chroma plane cols rows ref r pic ≡ chroma_added plane cols r.head r.levels (moved_up_to (num_motion_vectors r.head.mode) 2 cols rows ref (call_of r) r.vectors pic)
  unfolding applied_chroma when◌then◌else◌
  coded-chroma plane e = rw (ne_eqb r.head.mode 0 e)

-- a record's place
pub place-within : {cols rows : ℕ} {r : Record} → RecordRange cols rows r → cols ≤ 4096 → rows ≤ 4096 → Within cols rows r.head.column r.head.row
place-within range w h = record { across = range.column; down = range.row; wide = w; high = h }

-- a mode that is no skip
pub no-skip : (mode : ℕ) → 0 < mode → mode ≢ 0
no-skip mode h e = omega arith

-- a skip, by its place
pub skipped-luma : (cols rows : ℕ) (ref : List ℕ) (column row : ℕ) (pic : List ℕ) → applied_luma cols rows ref (skip_record column row) pic ≡ copied pic (16 * cols) (16 * column) (16 * row) 16 16 ref
unfolding skip_record
skipped-luma cols rows ref column row pic = skip-luma cols rows ref (skip_record column row) pic refl

pub skipped-chroma : (plane cols rows : ℕ) (ref : List ℕ) (column row : ℕ) (pic : List ℕ) → applied_chroma plane cols rows ref (skip_record column row) pic ≡ copied pic (8 * cols) (8 * column) (8 * row) 8 8 ref
unfolding skip_record
skipped-chroma plane cols rows ref column row pic = skip-chroma cols rows ref (skip_record column row) pic plane refl
