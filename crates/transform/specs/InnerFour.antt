-- A plane after four blocks were added to it.
-- Assumes nothing.
use Rattle.std.specs.Prelude.{List, ℕ, zero, suc, ◌+◌, ◌*◌, ◌/◌, ◌%◌, ℤ, pos, get_or}
use Rattle.picture.specs.Painted.{Inside}
use Rattle.transform.specs.Residual.{placed, residual}
use Rattle.transform.specs.Added.{added}
use Rattle.transform.specs.declared.Square.{Square}

-- a square of n × n samples lies within a plane of `size`
abbrev pub SquareIn : Square → ℕ → ℕ → Type 0
SquareIn s n size = Inside s.stride s.x s.y n n size

-- a plane after four blocks are added, the upper two and then the lower two, from column x of row y on
unfoldable pub added_four : List ℕ → ℕ → ℕ → ℕ → (ℕ → ℕ → ℕ → ℤ) → List ℕ
added_four plane stride x y residual =
    added (added (added (added plane stride x y (residual 0)) stride (x + 4) y (residual 1)) stride x (y + 4) (residual 2)) stride (x + 4) (y + 4) (residual 3)

-- a plane after the residuals of four blocks are added in a square: of their levels at an entry of the table, each with its DC
abbrev pub four_added : List ℕ → Square → List ℤ → ℕ → List ℤ → List ℕ
four_added plane s levels scale dc = added_four plane s.stride s.x s.y (λ b. residual scale (get_or dc b (pos 0)) (placed levels (16 * b)))

-- a plane after the first n of these blocks are added
unfoldable pub added_blocks : List ℕ → ℕ → ℕ → ℕ → (ℕ → ℕ → ℕ → ℤ) → ℕ → List ℕ
added_blocks plane stride x y residual zero = plane
added_blocks plane stride x y residual (suc n) = added (added_blocks plane stride x y residual n) stride (x + 4 * (n % 2)) (y + 4 * (n / 2)) (residual n)
