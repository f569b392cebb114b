-- The printer's start, as parts of its buffers, and what a run from there leaves.
-- Assumes nothing.
use mathlib.Core.Path.{◌≡◌, ap, ◌∙◌}
use mathlib.Core.List.{List}
use Prim.Native.Nat.{ℕ, ◌*◌, ◌≤◌}
use native.Mathlib.Omega.{arith}
use lib.IntN.{pos}
use lib.ListN.{take, replicate}
use Rattle.levels.proofs.Sets.{part-of-same}
use Rattle.state.specs.State.{State}
use Rattle.macroblock.specs.Entry.{state_of}
use Rattle.state.specs.declared.Frame.{Frame}
use Rattle.run.specs.Left.{Left, list_left}
use Rattle.printing.specs.Header.{frame_of}
use Rattle.printing.specs.Print.{start}
use Rattle.printing.specs.declared.header.Header.{Header}

-- a part of equal elements, whose length is written in another way
part-is : {A : Type 0} (n k m : ℕ) (v : A) → n ≡ k → n ≤ m → take n (replicate m v) ≡ replicate k v
part-is n k m v e h = part-of-same n 0 m v (omega arith) ∙ ap (λ (j : ℕ). replicate j v) e

-- n macroblocks
module _ (h : Header) (n : ℕ) (few : (n ≡ h.grid.cols * h.grid.rows) × (n ≤ 16)) where
  abbrev pub buffers : Frame → State
  buffers f =
      state_of f h.quantiser (take (256 * n) (replicate 4096 128)) (take (64 * n) (replicate 1024 128)) (take (64 * n) (replicate 1024 128))
      (take (256 * n) (replicate 4096 0)) (take (64 * n) (replicate 1024 0)) (take (64 * n) (replicate 1024 0)) (take (32 * n) (replicate 512 (pos 0))) (take (16 * n) (replicate 256 0))

  same_start : {f : Frame} → f ≡ frame_of h → buffers f ≡ start h
  unfolding start
  same_start e =
      let m = h.grid.cols * h.grid.rows in
      let luma : (v : ℕ) → take (256 * n) (replicate 4096 v) ≡ replicate (256 * m) v = λ v. part-is (256 * n) (256 * m) 4096 v (omega (arith, few.0)) (omega (arith, few.1)) in
      let chroma : (v : ℕ) → take (64 * n) (replicate 1024 v) ≡ replicate (64 * m) v = λ v. part-is (64 * n) (64 * m) 1024 v (omega (arith, few.0)) (omega (arith, few.1)) in
      let numbers = part-is (32 * n) (2 * (16 * m)) 512 (pos 0) (omega (arith, few.0)) (omega (arith, few.1)) in
      let cells = part-is {A = ℕ} (16 * n) (16 * m) 256 0 (omega (arith, few.0)) (omega (arith, few.1)) in
      λ i. state_of (e i) h.quantiser (luma 128 i) (chroma 128 i) (chroma 128 i) (luma 0 i) (chroma 0 i) (chroma 0 i) (numbers i) (cells i)

  pub left-from : {f : Frame} → f ≡ frame_of h → (list bits t : List ℕ) {l : Left} → l ≡ list_left (buffers f) list bits 0 t
      → (l.report ≡ (list_left (start h) list bits 0 t).report) × (l.transcript ≡ (list_left (start h) list bits 0 t).transcript)
  left-from w list bits t e =
      let k = e ∙ ap (λ (s : State). list_left s list bits 0 t) (same_start w) in
      (ap (λ (x : Left). x.report) k, ap (λ (x : Left). x.transcript) k)
