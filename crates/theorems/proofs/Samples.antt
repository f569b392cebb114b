-- SAMPLES: after an accepted call that read the record r (`accepted-reads`: it read one), whatever the state, the call, the bits and their place, in each of the three planes:
-- `sample_with_residual`: at column c of row d of partition i, the picture has the sample of the reference, its edges endless, to which the partition's vector leads from there, by the formula of sixths;
-- where the block there is coded, that sample plus its residual, held in 0 to 255;
-- `compensated_sample`: with pattern 0, that sample alone, and it lies between the least and the greatest of its four taps;
-- `skipped_sample`: a skip, which has no partition, leaves at each place of its macroblock the sample of the reference at the same place.
-- Each place of a macroblock that is no skip lies in exactly one partition: `exactly-one` of vectors.
-- Assumes nothing.
use mathlib.Core.Path.{◌≡◌, refl, sym, ap, ◌∙◌, subst}
use mathlib.Core.Logic.{◌≢◌}
use mathlib.Core.Bool.{true, false}
use mathlib.Core.List.{List}
use Prim.Native.Nat.{ℕ, ◌+◌, ◌*◌, ◌/◌, ◌%◌, ◌^◌, ◌≤◌, ◌<◌}
use native.Mathlib.Nat.{le_refl, zero-div}
use native.Mathlib.Omega.{arith}
use lib.Dec.{ltb, lit<}
use lib.IntN.{pos, ◌+ℤ◌}
use lib.ListN.{length, drop, get_or}
use Rattle.refusal.specs.Got.{got}
use Rattle.refusal.proofs.Formats.{got-value}
use Rattle.ints.specs.Z.{when◌then◌else◌, toward_zero, clip1_z}
use Rattle.bits.specs.Bits.{bit_list}
use Rattle.picture.specs.Painted.{Inside}
use Rattle.picture.specs.Picture.{copied}
use Rattle.picture.proofs.Laws.{macroblock-inside}
use Rattle.vectors.specs.Modes.{partition_width, partition_height, num_motion_vectors}
use Rattle.compensation.specs.Sample.{sample_at, sixths}
use Rattle.compensation.proofs.Between.{Between, least, greatest, sample-taps}
use Rattle.levels.specs.Pattern.{class_of, quadrant_coded}
use Rattle.state.specs.Questions.{ask_replay}
use Rattle.state.specs.declared.Call.{Call}
use Rattle.state.proofs.Yes.{started, all-sized}
use Rattle.record.specs.Record.{Record}
use Rattle.reading.specs.Read.{read_macroblock}
use Rattle.reading.specs.Bits.{call_of}
use Rattle.reading.proofs.Took.{read-call}
use Rattle.apply.specs.Moved.{vector_x, vector_y, part_x, part_y, moved_up_to}
use Rattle.apply.specs.Blocks.{chroma_added}
use Rattle.apply.specs.Apply.{applied_chroma}
use Rattle.apply.proofs.Macroblocks.{skip-luma, coded-luma, skip-chroma, coded-chroma}
use Rattle.state.specs.InnerSizes.{AllSized}
use Rattle.state.specs.State.{State, context_of, lengths_of}
use Rattle.macroblock.specs.Decode.{applied, Outcome, outcome_of, decoded}
use Rattle.macroblock.specs.declared.MbReport.{MbReport}
use Rattle.std.specs.Prelude.{Ok}
use Rattle.theorems.specs.Trace.{Ready}
use Rattle.theorems.specs.Samples.{Plane, Luma, Cb, Cr, reference_of, picture_of, unit_of, width_of, height_of, picture_at, reference_at, compensated_at, of_taps, quadrant_at, coded_at, luma_residual_at, chroma_residual_at, with_residual_at}
use Rattle.theorems.proofs.Traces.{Kind, no, yes, kind}
use Rattle.theorems.proofs.Painted.{among-larger, place-fits, if-at, copied-here}
use Rattle.theorems.proofs.Macroblocks.{SquareHolds, PartHolds, part_in, moved-outside, moved_at, luma-at, chroma-at}

-- ---- an accepted call has read a record, and leaves what this does
record Reading (s : State) (call : Call) (bits : List ℕ) (place : ℕ) (after : State) : Type 0 where
  read : Record
  count : ℕ
  is : read_macroblock (context_of s) call (drop place (bit_list bits)) ≡ got read count
  leaves : after ≡ applied s read
  ready : Ready s call
  sized : AllSized s.cols s.rows (lengths_of s)

accepted-reads : (s : State) (call : Call) (bits : List ℕ) (place : ℕ) (t : List ℕ) (fill : ℕ) {report : MbReport} → (decoded s call bits place t fill).answer ≡ Ok report
    → Reading s call bits place (decoded s call bits place t fill).state
unfolding outcome_of ask_replay
accepted-reads s call bits place t fill a = go (kind s call bits place t fill)
  where
    go : Kind s call bits place t fill → Reading s call bits place (decoded s call bits place t fill).state
    go (no why e) = absurd (let b = sym a ∙ ap (λ (o : Outcome). o.answer) e in let z : ◌≡◌ {A = ℕ} 0 1 = cc in omega arith)
    go (yes r n asks h e) = record {
      read = r;
      count = n;
      is = h;
      leaves = ap (λ (o : Outcome). o.state) e;
      ready = asks.ready;
      sized = all-sized s.cols s.rows (lengths_of s) (started s.cols s.rows (lengths_of s) _ asks.replay);
    }

-- the record r, at its own place
record Applying (s : State) (call : Call) (r : Record) (after : State) : Type 0 where
  pub is : after ≡ applied s r
  pub call-is : call ≡ call_of r
  pub mode : r.head.mode ≤ 7
  pub column : r.head.column < s.cols
  pub row : r.head.row < s.rows
  pub sized : AllSized s.cols s.rows (lengths_of s)

applying : {s : State} {call : Call} (bits : List ℕ) (place : ℕ) {after : State} {r : Record} {n : ℕ} → Reading s call bits place after → read_macroblock (context_of s) call (drop place (bit_list bits)) ≡ got r n → Applying s call r after
applying {s} {call} bits place {after} {r} {n} x h =
    let c : call ≡ call_of r = read-call (context_of s) call (drop place (bit_list bits)) r n h in
    record {
      is = x.leaves ∙ ap (applied s) (got-value (sym x.is ∙ h));
      call-is = c;
      mode = subst (λ (y : Call). y.mode ≤ 7) c x.ready.mode;
      column = subst (λ (y : Call). y.column < s.cols) c x.ready.column;
      row = subst (λ (y : Call). y.row < s.rows) c x.ready.row;
      sized = x.sized;
    }

-- a skip has no partition
some-mode : (mode i : ℕ) → i < num_motion_vectors mode → mode ≢ 0
unfolding num_motion_vectors
some-mode mode i l e = let z : i < num_motion_vectors 0 = subst (λ (m : ℕ). i < num_motion_vectors m) e l in omega arith

-- pattern 0: no block is coded
no-quadrant : (q : ℕ) → quadrant_coded 0 q ≡ false
unfolding quadrant_coded
no-quadrant q = rw (zero-div (2 ^ q))

not-coded : (plane : Plane) (r : Record) → r.head.pattern ≡ 0 → (a b v : ℕ) → with_residual_at plane r a b v ≡ v
unfolding with_residual_at coded_at when◌then◌else◌
not-coded Luma r e a b v = rw (ap (λ (p : ℕ). quadrant_coded p (quadrant_at a b)) e ∙ no-quadrant (quadrant_at a b))
not-coded Cb r e a b v = rw e
not-coded Cr r e a b v = rw e

-- ---- what a record leaves at one place
module _ {s : State} {call : Call} {r : Record} {after : State} (g : Applying s call r after) where
  in-plane : (plane : Plane) → let n = 16 / unit_of plane in Inside (width_of plane s) (n * r.head.column) (n * r.head.row) n n (length (picture_of plane s))
  in-plane Luma = rw g.sized.picture.luma_right (macroblock-inside 16 (lit< tt) g.column g.row)
  in-plane Cb = rw g.sized.picture.cb_right (macroblock-inside 8 (lit< tt) g.column g.row)
  in-plane Cr = rw g.sized.picture.cr_right (macroblock-inside 8 (lit< tt) g.column g.row)

  in-square : (plane : Plane) {X Y : ℕ} → SquareHolds (16 / unit_of plane) r.head.column r.head.row X Y → (X < width_of plane s) × (Y * width_of plane s + X < length (picture_of plane s))
  in-square plane sq = place-fits (in-plane plane) sq

  -- a chroma plane, Cb 0 or Cr 1
  chroma-sample : (k i X Y : ℕ) (ref pic : List ℕ) → i < num_motion_vectors r.head.mode → PartHolds 2 (call_of r) i X Y → X < 8 * s.cols → Y * (8 * s.cols) + X < length pic
      → let v = sample_at ref (8 * s.cols) (8 * s.rows) (sixths (pos X) (toward_zero (vector_x r.vectors i) 2)) (sixths (pos Y) (toward_zero (vector_y r.vectors i) 2)) in
      get_or (applied_chroma k s.cols s.rows ref r pic) (Y * (8 * s.cols) + X) 0 ≡ (when ltb 0 (class_of r.head.pattern) then clip1_z (pos v +ℤ chroma_residual_at k r (X % 8) (Y % 8)) else v)
  unfolding chroma_added chroma_residual_at
  chroma-sample k i X Y ref pic l p wide fits =
      let sq = among-larger (part_in true (call_of r) i g.mode l) p in
      let moved = moved_up_to (num_motion_vectors r.head.mode) 2 s.cols s.rows ref (call_of r) r.vectors pic in
      let size = (moved-outside true (num_motion_vectors r.head.mode) s.cols s.rows ref (call_of r) r.vectors pic g.mode (le_refl _)).size in
      ap (λ (l : List ℕ). get_or l (Y * (8 * s.cols) + X) 0) (coded-chroma s.cols s.rows ref r pic k (some-mode r.head.mode i l))
      ∙ if-at _ _ moved _ (Y * (8 * s.cols) + X) refl (chroma-at k s.cols r.head r.levels moved X Y sq wide (rw size fits))
      ∙ rw (moved_at true s.cols s.rows ref (call_of r) r.vectors pic i X Y g.mode l p wide fits)

  record-sample : (plane : Plane) (i X Y : ℕ) → i < num_motion_vectors r.head.mode → PartHolds (unit_of plane) (call_of r) i X Y
      → let n = 16 / unit_of plane in picture_at plane (applied s r) X Y ≡ with_residual_at plane r (X % n) (Y % n) (compensated_at plane s r i X Y)
  unfolding picture_at applied with_residual_at coded_at compensated_at luma_residual_at
  record-sample Luma i X Y l p =
      let sq = among-larger (part_in false (call_of r) i g.mode l) p in
      let f = in-square Luma sq in
      let size = (moved-outside false (num_motion_vectors r.head.mode) s.cols s.rows s.ry (call_of r) r.vectors s.y g.mode (le_refl _)).size in
      ap (λ (pic : List ℕ). get_or pic (Y * (16 * s.cols) + X) 0) (coded-luma s.cols s.rows s.ry r s.y (some-mode r.head.mode i l))
      ∙ luma-at s.cols r.head r.levels _ X Y sq f.0 (rw size f.1)
      ∙ rw (moved_at false s.cols s.rows s.ry (call_of r) r.vectors s.y i X Y g.mode l p f.0 f.1)
  record-sample Cb i X Y l p = let f = in-square Cb (among-larger (part_in true (call_of r) i g.mode l) p) in chroma-sample 0 i X Y s.rcb s.cb l p f.0 f.1
  record-sample Cr i X Y l p = let f = in-square Cr (among-larger (part_in true (call_of r) i g.mode l) p) in chroma-sample 1 i X Y s.rcr s.cr l p f.0 f.1

  plane-skipped : r.head.mode ≡ 0 → (plane : Plane)
      → let n = 16 / unit_of plane in picture_of plane (applied s r) ≡ copied (picture_of plane s) (width_of plane s) (n * r.head.column) (n * r.head.row) n n (reference_of plane s)
  unfolding applied
  plane-skipped e Luma = skip-luma s.cols s.rows s.ry r s.y e
  plane-skipped e Cb = skip-chroma s.cols s.rows s.rcb r s.cb 0 e
  plane-skipped e Cr = skip-chroma s.cols s.rows s.rcr r s.cr 1 e

  record-skipped : r.head.mode ≡ 0 → (plane : Plane) (X Y : ℕ) → SquareHolds (16 / unit_of plane) r.head.column r.head.row X Y → picture_at plane (applied s r) X Y ≡ reference_at plane s X Y
  unfolding picture_at reference_at applied
  record-skipped e plane X Y sq =
      let f = in-square plane sq in
      ap (λ (l : List ℕ). get_or l (Y * width_of plane s + X) 0) (plane-skipped e plane) ∙ copied-here _ _ _ _ _ (reference_of plane s) (picture_of plane s) X Y f.0 f.1 sq

-- ---- the theorems
module _ (s : State) (call : Call) (bits : List ℕ) (place : ℕ) (room : List ℕ) (fill : ℕ)
    {report : MbReport} (accepted : (decoded s call bits place room fill).answer ≡ Ok report) where
  abbrev after : State
  after = (decoded s call bits place room fill).state

  pub sample_with_residual : {r : Record} {n : ℕ} → read_macroblock (context_of s) call (drop place (bit_list bits)) ≡ got r n
      → (plane : Plane) (i c d : ℕ) → i < num_motion_vectors call.mode → c < partition_width call.mode / unit_of plane → d < partition_height call.mode / unit_of plane
      → let x = part_x (unit_of plane) call i + c in let y = part_y (unit_of plane) call i + d in let side = 16 / unit_of plane in
      picture_at plane after x y ≡ with_residual_at plane r (x % side) (y % side) (compensated_at plane s r i x y)
  sample_with_residual {r} h plane i c d =
      let g = applying bits place (accepted-reads s call bits place room fill accepted) h in
      let u = unit_of plane in
      let side = 16 / u in
      rw g.is
      (subst (λ (call : Call). i < num_motion_vectors call.mode → c < partition_width call.mode / u → d < partition_height call.mode / u
      → let x = part_x u call i + c in let y = part_y u call i + d in picture_at plane (applied s r) x y ≡ with_residual_at plane r (x % side) (y % side) (compensated_at plane s r i x y))
      (sym g.call-is)
      (λ l lc ld. record-sample g plane i _ _ l (record { left = omega arith; right = omega arith; top = omega arith; bottom = omega arith })))

  pub compensated_sample : {r : Record} {n : ℕ} → read_macroblock (context_of s) call (drop place (bit_list bits)) ≡ got r n → r.head.pattern ≡ 0
      → (plane : Plane) (i c d : ℕ) → i < num_motion_vectors call.mode → c < partition_width call.mode / unit_of plane → d < partition_height call.mode / unit_of plane
      → let x = part_x (unit_of plane) call i + c in let y = part_y (unit_of plane) call i + d in let v = picture_at plane after x y in
      (v ≡ compensated_at plane s r i x y) × Between (of_taps least plane s r i x y) (of_taps greatest plane s r i x y) v
  unfolding compensated_at of_taps
  compensated_sample {r} h e plane i c d l lc ld =
      let v = sample_with_residual h plane i c d l lc ld ∙ not-coded plane r e _ _ _ in
      (v, rw v (sample-taps (reference_of plane s) (width_of plane s) (height_of plane s) _ _))

  pub skipped_sample : call.mode ≡ 0 → (plane : Plane) (a b : ℕ) → let side = 16 / unit_of plane in a < side → b < side
      → let x = side * call.column + a in let y = side * call.row + b in picture_at plane after x y ≡ reference_at plane s x y
  skipped_sample e plane a b la lb =
      let w = accepted-reads s call bits place room fill accepted in
      let g = applying bits place w w.is in
      let side = 16 / unit_of plane in
      rw g.is
      (subst (λ (call : Call). call.mode ≡ 0 → let x = side * call.column + a in let y = side * call.row + b in picture_at plane (applied s w.read) x y ≡ reference_at plane s x y)
      (sym g.call-is)
      (λ m. record-skipped g m plane _ _ (record { left = omega arith; right = omega arith; top = omega arith; bottom = omega arith })) e)
