-- A compensated sample lies between the least and the greatest of its four taps, at every phase; whole samples are the taps themselves; an accepted block is made of such samples.
-- Assumes nothing.
use mathlib.Core.Path.{◌≡◌}
use mathlib.Core.Bool.{Bool, true, false, ◌&&◌}
use mathlib.Core.List.{List}
use Prim.Native.Nat.{ℕ, ◌+◌, ◌*◌, ◌/◌, ◌≤◌, ◌<◌, min, max}
use native.Mathlib.Nat.{zero-add, add-zero}
use native.Mathlib.Omega.{arith}
use lib.Dec.{eqb, ltb}
use lib.IntN.{ℤ, pos, ◌+ℤ◌}
use lib.ListN.{length, get_or}
use Rattle.picture.proofs.Laws.{painted_same}
use Rattle.ints.specs.Z.{when◌then◌else◌, floor_z, mod_z}
use Rattle.compensation.specs.Formula.{mean, third, along, corner, third2d, formula}
use Rattle.compensation.specs.Sample.{tap, sample_at, block_sample}
use Rattle.state.specs.Questions.{sides_fit}
use Rattle.compensation.specs.Block.{block_out}
use Rattle.compensation.proofs.Sides.{spans, block_inside}

pub record Between (lo hi v : ℕ) : Type 0 where
  pub low : lo ≤ v
  pub high : v ≤ hi

module _ {lo hi : ℕ} where
  either : (t : Bool) {a b : ℕ} → Between lo hi a → Between lo hi b → Between lo hi (when t then a else b)
  unfolding when◌then◌else◌
  either true p q = p
  either false p q = q

  mean-between : {a b : ℕ} → Between lo hi a → Between lo hi b → Between lo hi (mean a b)
  mean-between p q = omega arith

  third-between : {a b : ℕ} → Between lo hi a → Between lo hi b → Between lo hi (third a b)
  third-between p q = omega arith

  corner-between : {a b c d : ℕ} → Between lo hi a → Between lo hi b → Between lo hi c → Between lo hi d → Between lo hi (corner a b c d)
  corner-between p q r s = omega arith

  four-between : {a b c d : ℕ} → Between lo hi a → Between lo hi b → Between lo hi c → Between lo hi d → Between lo hi ((a + b + c + d + 2) / 4)
  four-between p q r s = omega arith

  along-between : (f : ℕ) {a b : ℕ} → Between lo hi a → Between lo hi b → Between lo hi (along f a b)
  unfolding along
  along-between f p q = either (eqb f 0) p (either (eqb f 3) (mean-between p q) (either (ltb f 3) (third-between p q) (third-between q p)))

  third2d-between : (px py : ℕ) {a b c d : ℕ} → Between lo hi a → Between lo hi b → Between lo hi c → Between lo hi d → Between lo hi (third2d px py a b c d)
  unfolding third2d
  third2d-between px py p q r s =
      either (ltb py 3)
      (either (ltb px 3) (corner-between p q r s) (corner-between q p s r))
      (either (ltb px 3) (corner-between r s p q) (corner-between s r q p))

  -- between any bounds of the taps
  formula-between : (px py : ℕ) {a b c d : ℕ} → Between lo hi a → Between lo hi b → Between lo hi c → Between lo hi d → Between lo hi (formula px py a b c d)
  unfolding formula
  formula-between px py p q r s =
      either (eqb py 0) (along-between px p q)
      (either (eqb px 0) (along-between py p r)
      (either (eqb px 3 && eqb py 3) (four-between p q r s)
      (either (eqb px 3) (along-between py (mean-between p q) (mean-between r s))
      (either (eqb py 3) (along-between px (mean-between p r) (mean-between q s)) (third2d-between px py p q r s)))))

-- the least and the greatest of four
abbrev pub least : ℕ → ℕ → ℕ → ℕ → ℕ
least a b c d = min (min a b) (min c d)

abbrev pub greatest : ℕ → ℕ → ℕ → ℕ → ℕ
greatest a b c d = max (max a b) (max c d)

formula-taps : (px py a b c d : ℕ) → Between (least a b c d) (greatest a b c d) (formula px py a b c d)
formula-taps px py a b c d = formula-between px py (omega arith) (omega arith) (omega arith) (omega arith)

-- of the sample at any position, on any plane
pub sample-taps : (plane : List ℕ) (width height : ℕ) (p q : ℤ) → let x = floor_z p 6 in let y = floor_z q 6 in let s = tap plane width height in
    let over : (ℕ → ℕ → ℕ → ℕ → ℕ) → ℕ = λ f. f (s x y) (s (x +ℤ pos 1) y) (s x (y +ℤ pos 1)) (s (x +ℤ pos 1) (y +ℤ pos 1)) in Between (over least) (over greatest) (sample_at plane width height p q)
unfolding sample_at
sample-taps plane width height p q = formula-taps (mod_z p 6) (mod_z q 6) _ _ _ _

-- ---- what an accepted call leaves: sample c of row r, and what a refused one leaves
module _ (out plane : List ℕ) (width height w h : ℕ) (x y vx vy : ℤ) where
  pub block_at : sides_fit 65536 width height (length plane) ≡ true → sides_fit 16 w h (length out) ≡ true → (r c : ℕ) → r < h → c < w → get_or (block_out out plane width height x y w h vx vy) (r * w + c) 0 ≡ block_sample plane width height x y vx vy r c
  unfolding block_out when◌then◌else◌
  block_at p s r c lr lc =
      let q = spans w h (length out) s in
      rw (p, s) (simp (zero-add, add-zero) at (painted_same (block_sample plane width height x y vx vy) out r c 0 (block_inside q.0 q.1) lr lc))

  pub block_refused : (sides_fit 65536 width height (length plane) && sides_fit 16 w h (length out)) ≡ false → block_out out plane width height x y w h vx vy ≡ out
  unfolding block_out when◌then◌else◌
  block_refused e = rw e
