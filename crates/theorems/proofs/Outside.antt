-- OUTSIDE: whatever the state, the call, the bits and the place, accepted or refused: a call changes no sample, vector or mark outside its macroblock, and no sample of the reference.
-- Assumes nothing.
use mathlib.Core.Path.{◌≡◌, refl, sym, subst}
use mathlib.Core.Bool.{true, false}
use mathlib.Core.List.{List}
use Prim.Native.Nat.{ℕ, ◌≤◌}
use native.Mathlib.Nat.{le_refl}
use lib.Dec.{eqb, ltb}
use lib.IntN.{pos}
use lib.ListN.{drop}
use Rattle.bits.specs.Bits.{bit_list}
use Rattle.picture.specs.Picture.{copied}
use Rattle.levels.specs.Pattern.{class_of}
use Rattle.picture.specs.Field.{Field}
use Rattle.state.specs.declared.Call.{Call}
use Rattle.record.specs.Record.{Record}
use Rattle.reading.specs.Bits.{call_of}
use Rattle.reading.proofs.Took.{read-call}
use Rattle.apply.specs.Blocks.{chroma_added}
use Rattle.apply.specs.Apply.{applied_luma, applied_chroma, applied_field}
use Rattle.state.specs.State.{State, context_of, field_of}
use Rattle.macroblock.specs.Decode.{applied, outcome_of, decoded}
use Rattle.theorems.specs.Samples.{Plane, Luma, Cb, Cr, reference_of, picture_of, unit_of}
use Rattle.theorems.specs.Outside.{Outside, SamplesOutside, StateOutside}
use Rattle.theorems.proofs.Traces.{Kind, no, yes, kind}
use Rattle.theorems.proofs.Painted.{by-test, covers-itself, outside-same, outside-then, outside-painted}
use Rattle.theorems.proofs.Macroblocks.{moved-outside, luma-outside, chroma-outside, FieldOutside, field_stored, stored-outside}

-- ---- what a record does
module _ (r : Record) (m : r.head.mode ≤ 7) where
  luma-applied : (cols rows : ℕ) (ref pic : List ℕ) → SamplesOutside 1 cols r.head.column r.head.row pic (applied_luma cols rows ref r pic)
  unfolding applied_luma copied
  luma-applied cols rows ref pic =
      by-test (Outside _ _ _ _ _ _) (eqb r.head.mode 0)
      (outside-painted _ _ (covers-itself _ _ _ _))
      (outside-then (moved-outside false _ cols rows ref (call_of r) r.vectors pic m (le_refl _)) (luma-outside 16 cols r.head r.levels _ (le_refl 16)))

  chroma-applied : (plane cols rows : ℕ) (ref pic : List ℕ) → SamplesOutside 2 cols r.head.column r.head.row pic (applied_chroma plane cols rows ref r pic)
  unfolding applied_chroma chroma_added copied
  chroma-applied plane cols rows ref pic =
      by-test (Outside _ _ _ _ _ _) (eqb r.head.mode 0)
      (outside-painted _ _ (covers-itself _ _ _ _))
      (outside-then (moved-outside true _ cols rows ref (call_of r) r.vectors pic m (le_refl _))
      (by-test (Outside _ _ _ _ _ _) (ltb 0 (class_of r.head.pattern)) (chroma-outside 4 plane cols r.head r.levels _ (le_refl 4)) (outside-same _)))

  field-applied : (f : Field) → FieldOutside r.head.column r.head.row f (applied_field r f)
  unfolding applied_field
  field-applied f =
      by-test (FieldOutside _ _ f) (eqb r.head.mode 0)
      (field_stored _ _ _ _ _ _ f (pos 0) (pos 0) (covers-itself _ _ _ _))
      (stored-outside _ (call_of r) r.vectors f m (le_refl _))

  applied-outside : (s : State) → StateOutside r.head.column r.head.row s (applied s r)
  unfolding applied
  applied-outside s = record { references = references; samples = samples; vectors = (field-applied (field_of s)).vectors; marks = (field-applied (field_of s)).marks }
    where
      references : (plane : Plane) → reference_of plane (applied s r) ≡ reference_of plane s
      references Luma = refl
      references Cb = refl
      references Cr = refl

      samples : (plane : Plane) → SamplesOutside (unit_of plane) s.cols r.head.column r.head.row (picture_of plane s) (picture_of plane (applied s r))
      samples Luma = luma-applied s.cols s.rows s.ry s.y
      samples Cb = chroma-applied 0 s.cols s.rows s.rcb s.cb
      samples Cr = chroma-applied 1 s.cols s.rows s.rcr s.cr

-- ---- the theorem
pub outside_unchanged : (s : State) (call : Call) (bits : List ℕ) (place : ℕ) (room : List ℕ) (fill : ℕ) → StateOutside call.column call.row s (decoded s call bits place room fill).state
unfolding outcome_of
outside_unchanged s call bits place room fill = go (kind s call bits place room fill)
  where
    go : Kind s call bits place room fill → StateOutside call.column call.row s (decoded s call bits place room fill).state
    go (no why e) =
        rw e (record { references = λ plane. refl; samples = λ plane. outside-same (picture_of plane s); vectors = outside-same s.mv; marks = outside-same s.marks })
    go (yes r n a h e) =
        let c : call ≡ call_of r = read-call (context_of s) call (drop place (bit_list bits)) r n h in
        let m : r.head.mode ≤ 7 = subst (λ (k : Call). k.mode ≤ 7) c a.ready.mode in
        rw e (subst (λ (k : Call). StateOutside k.column k.row s (applied s r)) (sym c) (applied-outside r m s))
