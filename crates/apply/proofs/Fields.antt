-- Vectors and marks: of the cells of a row, and of a record.
-- Assumes nothing.
use mathlib.Core.Path.{◌≡◌, refl, ap, ◌∙◌}
use mathlib.Core.Logic.{◌≢◌}
use mathlib.Core.List.{List}
use Prim.Native.Nat.{ℕ, ◌+◌, ◌*◌, ◌/◌, ◌%◌, ◌^◌}
use native.Mathlib.Nat.{add_assoc}
use native.Mathlib.Omega.{arith}
use lib.IntN.{ℤ, pos}
use lib.ListN.{set}
use borrow.Author.Tests.{eq-eqb, ne_eqb}
use Rattle.ints.specs.Z.{when◌then◌else◌}
use Rattle.picture.specs.InnerRows.{row, rows}
use Rattle.picture.proofs.Laws.{row_more, rows_more}
use Rattle.vectors.specs.Modes.{num_motion_vectors}
use Rattle.picture.specs.Field.{Field}
use Rattle.picture.specs.InnerField.{lent_field}
use Rattle.vectors.specs.Stored.{stored_vectors, stored_marks, stored_field}
use Rattle.record.specs.Record.{Record, skip_record}
use Rattle.reading.specs.Bits.{call_of}
use Rattle.apply.specs.Moved.{vector_x, vector_y}
use Rattle.apply.specs.Apply.{stored_up_to, applied_field}
use Rattle.apply.specs.InnerCells.{own_number}

-- ---- a turn of the loop over the cells of a row, and of the one over rows: a row begins at twice its first cell
pub own-more : {l : List ℤ} (l₀ vs : List ℤ) (at four c : ℕ) {vx vy : ℤ} → l ≡ row l₀ at (own_number vs four) (2 * c) → vx ≡ vector_x vs (four / 2 ^ (4 * c) % 16) → vy ≡ vector_y vs (four / 2 ^ (4 * c) % 16)
    → set (set l (at + 2 * c) vx) (at + 2 * c + 1) vy ≡ row l₀ at (own_number vs four) (2 * (c + 1))
unfolding own_number
own-more l₀ vs at four c e ex ey =
    let h₀ : 2 * c / 2 ≡ c = omega arith in
    let m₀ : 2 * c % 2 ≡ 0 = omega arith in
    let z : 2 * (four / 2 ^ (4 * c) % 16) + 0 ≡ 2 * (four / 2 ^ (4 * c) % 16) = omega arith in
    let h₁ : (2 * c + 1) / 2 ≡ c = omega arith in
    let m₁ : (2 * c + 1) % 2 ≡ 1 = omega arith in
    let one = row_more l₀ at (own_number vs four) (2 * c) e (ex ∙ rw (h₀, m₀, z) refl) in
    let two = row_more l₀ at (own_number vs four) (2 * c + 1) one (ey ∙ rw (h₁, m₁) refl) in
    let n : 2 * c + 1 + 1 ≡ 2 * (c + 1) = omega arith in
    rw (add_assoc at (2 * c) 1) (two ∙ ap (row l₀ at (own_number vs four)) n)

pub owns-more : {l l' : List ℤ} (l₀ vs : List ℤ) (s x y whose r : ℕ) → l ≡ rows l₀ (2 * s) (2 * x) y (λ d. own_number vs (whose / 2 ^ (16 * d))) 8 r → l' ≡ row l (2 * ((y + r) * s + x)) (own_number vs (whose / 2 ^ (16 * r))) 8
    → l' ≡ rows l₀ (2 * s) (2 * x) y (λ d. own_number vs (whose / 2 ^ (16 * d))) 8 (r + 1)
owns-more {l} l₀ vs s x y whose r e f =
    let p : 2 * ((y + r) * s + x) ≡ (y + r) * (2 * s) + 2 * x = omega arith in
    rows_more l₀ (2 * s) (2 * x) y (λ d. own_number vs (whose / 2 ^ (16 * d))) 8 r e (f ∙ ap (λ k. row l k (own_number vs (whose / 2 ^ (16 * r))) 8) p)

-- a skip, and any other mode
skip-field : (r : Record) (f : Field) → r.head.mode ≡ 0 → applied_field r f ≡ stored_field f (4 * r.head.column) (4 * r.head.row) 4 4 (pos 0) (pos 0)
unfolding applied_field when◌then◌else◌
skip-field r f e = rw (eq-eqb r.head.mode 0 e)

pub coded-field : (r : Record) (f : Field) → r.head.mode ≢ 0 → applied_field r f ≡ stored_up_to (num_motion_vectors r.head.mode) (call_of r) r.vectors f
unfolding applied_field when◌then◌else◌
coded-field r f e = rw (ne_eqb r.head.mode 0 e)

-- a skip, by its place
pub skipped-mv : (cols rows column row : ℕ) (mv : List ℤ) (marks : List ℕ) → (applied_field (skip_record column row) (lent_field cols rows mv marks)).mv ≡ stored_vectors mv (4 * cols) (4 * column) (4 * row) 4 4 (pos 0) (pos 0)
unfolding skip_record stored_field
skipped-mv cols rows column row mv marks = ap (λ (f : Field). f.mv) (skip-field (skip_record column row) (lent_field cols rows mv marks) refl)

pub skipped-marks : (cols rows column row : ℕ) (mv : List ℤ) (marks : List ℕ) → (applied_field (skip_record column row) (lent_field cols rows mv marks)).marks ≡ stored_marks marks (4 * cols) (4 * column) (4 * row) 4 4
unfolding skip_record stored_field
skipped-marks cols rows column row mv marks = ap (λ (f : Field). f.marks) (skip-field (skip_record column row) (lent_field cols rows mv marks) refl)
