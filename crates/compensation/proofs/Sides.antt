-- What the tests on sides and lengths tell.
-- Assumes nothing.
use mathlib.Core.Path.{◌≡◌}
use mathlib.Core.Bool.{true, ◌&&◌}
use Prim.Native.Nat.{ℕ, ◌*◌, ◌≤◌, ◌<◌}
use native.Mathlib.Nat.{mul_comm, mul-le-mul}
use native.Mathlib.Omega.{arith}
use lib.Dec.{leb, eqb}
use borrow.Author.Tests.{leb-true, eqb-true}
use Rattle.picture.specs.Painted.{Inside}
use Rattle.picture.proofs.Laws.{both_true}
use Rattle.state.specs.Questions.{sides_fit}
use Rattle.state.proofs.Laws.{four-true}
use Rattle.compensation.specs.InnerBlock.{Whole, Span}

module _ (w h size : ℕ) where
  pub plane-whole : sides_fit 65536 w h size ≡ true → Whole w h size
  unfolding sides_fit
  plane-whole e =
      let p = both_true (leb 1 w && leb w 65536 && leb 1 h && leb h 65536) (eqb size (w * h)) e in
      let s = four-true (leb 1 w) (leb w 65536) (leb 1 h) (leb h 65536) p.0 in
      record { columns = (leb-true 1 w s.0, leb-true w 65536 s.1); lines = (leb-true 1 h s.2, leb-true h 65536 s.3); all = eqb-true size (w * h) p.1 }

  pub spans : sides_fit 16 w h size ≡ true → Span w h × (size ≡ w * h)
  unfolding sides_fit
  spans e =
      let p = both_true (leb 1 w && leb w 16 && leb 1 h && leb h 16) (eqb size (w * h)) e in
      let s = four-true (leb 1 w) (leb w 16) (leb 1 h) (leb h 16) p.0 in
      (record { across = (leb-true 1 w s.0, leb-true w 16 s.1); down = (leb-true 1 h s.2, leb-true h 16 s.3) }, eqb-true size (w * h) p.1)

-- where a line starts in its plane
pub line_small : {w h size line : ℕ} → Whole w h size → line < h → line * w ≤ 4294967296
line_small {w} {h} {size} {line} p lt =
    let small : line ≤ 65536 = omega arith in
    omega (arith, mul-le-mul small p.columns.1)

-- the output holds the block and nothing else
pub block_inside : {w h size : ℕ} → Span w h → size ≡ w * h → Inside w 0 0 w h size
block_inside {w} {h} s e = record { some = s.across.0; across = omega arith; down = rw e (omega (arith, mul_comm w h)) }
