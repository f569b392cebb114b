-- The compensated block: what is asked of it, and what it leaves.
-- Assumes nothing.
use Rattle.std.specs.Prelude.{◌&&◌, List, ℕ, ℤ, length, Result, Ok, Err}
use Rattle.ints.specs.Z.{when◌then◌else◌, toward_zero}
use Rattle.refusal.specs.declared.Refusal.{Refusal}
use Rattle.refusal.specs.declared.Refusal.TheVariants.{StateLength, CallRange}
use Rattle.picture.specs.Painted.{painted}
use Rattle.state.specs.Questions.{sides_fit}
use Rattle.compensation.specs.Sample.{block_sample}

-- a plane of at most 65,536 a side: else 2; spans 1 to 16 and an output of just that size: else 5
unfoldable pub block_answer : ℕ → ℕ → ℕ → ℕ → ℕ → ℕ → Result (Unit {0}) Refusal
block_answer size width height w h room =
    when sides_fit 65536 width height size then (when sides_fit 16 w h room then Ok tt else Err CallRange) else Err StateLength

-- the output afterwards: on refusal as it was
unfoldable pub block_out : List ℕ → List ℕ → ℕ → ℕ → ℤ → ℤ → ℕ → ℕ → ℤ → ℤ → List ℕ
block_out out plane width height x y w h vx vy =
    when sides_fit 65536 width height (length plane) && sides_fit 16 w h (length out)
    then painted w 0 0 w h (block_sample plane width height x y vx vy) out
    else out

-- chroma halves the place and the vector toward zero first
abbrev pub halved : ℤ → ℤ
halved z = toward_zero z 2
