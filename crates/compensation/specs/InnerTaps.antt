-- What a block reads: its phases, the place of its first tap, and whether all taps lie inside the plane.
-- Assumes nothing.
use Rattle.std.specs.Prelude.{◌≡◌, Bool, ◌&&◌, List, ℕ, ◌+◌, ℤ, pos, ◌+ℤ◌, ◌-ℤ◌}
use Rattle.std.specs.Int.Signed.{le_z}
use Rattle.ints.specs.Z.{floor_z, mod_z}
use Rattle.picture.specs.declared.Size.{Size}
use Rattle.compensation.specs.Formula.{formula}
use Rattle.compensation.specs.InnerKernel.{extra, origin_of, window_block}
use Rattle.compensation.specs.declared.svq3_mc.Taps.{Taps}

-- the block at (x, y) with the vector (vx, vy)
pub record Placed (x y vx vy ox oy : ℤ) (px py : ℕ) : Type 0 where
  pub across_phase : px ≡ mod_z vx 6
  pub down_phase : py ≡ mod_z vy 6
  pub across : ox ≡ x +ℤ floor_z vx 6
  pub down : oy ≡ y +ℤ floor_z vy 6

-- whether the n places from o on lie in a line of `side`
unfoldable pub lies_in : ℤ → ℕ → ℕ → Bool
lies_in o n side = le_z (pos 0) o && le_z o (pos side -ℤ pos n)

-- taps that a block of w by h can be read by
pub record TapsIn (width height w h : ℕ) (t : Taps) : Type 0 where
  pub whether : t.inside ≡ (lies_in t.ox (w + extra t.phases.px t.phases.py) width && lies_in t.oy (h + extra t.phases.px t.phases.py) height)

-- the samples that taps say, from a plane of that size
abbrev pub tapped : Size → Taps → List ℕ → ℕ → ℕ → ℕ
tapped s t plane = window_block (formula t.phases.px t.phases.py) plane s.width s.height (origin_of s.width t.ox) (origin_of s.height t.oy)
