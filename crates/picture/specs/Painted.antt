-- A plane is a list of samples, row by row: place i lies in column i % stride of row i / stride. What a plane holds after a rectangle of it was written.
-- Assumes nothing.
use Rattle.std.specs.Prelude.{ℕ, suc, ◌+◌, ◌-◌, ◌*◌, ◌/◌, ◌%◌, ◌≤◌, ◌<◌, Bool, cond, ◌&&◌, List, [], ◌∷◌, leb, ltb}

-- each element v of l, at its place i, made `f i v`
unfoldable pub each_at : {A : Type 0} → (ℕ → A → A) → List A → List A
each_at f [] = []
each_at f (v ∷ l) = f 0 v ∷ each_at (λ i. f (suc i)) l

-- a ≤ i < a + n
unfoldable pub within : ℕ → ℕ → ℕ → Bool
within a n i = leb a i && ltb i (a + n)

-- place i lies in one of the w columns from x on and in one of the h rows from y on
unfoldable pub inside : ℕ → ℕ → ℕ → ℕ → ℕ → ℕ → Bool
inside stride x y w h i = within x w (i % stride) && within y h (i / stride)

-- l with `value r c` at column x + c of row y + r, for each r < h and c < w, and all else as it was
unfoldable pub painted : {A : Type 0} → ℕ → ℕ → ℕ → ℕ → ℕ → (ℕ → ℕ → A) → List A → List A
painted stride x y w h value = each_at (λ i old. cond (inside stride x y w h i) (value (i / stride - y) (i % stride - x)) old)

-- the w × h places from column x of row y on lie within a plane of `size`
pub record Inside (stride x y w h size : ℕ) : Type 0 where
  pub some : 0 < stride
  pub across : x + w ≤ stride
  pub down : (y + h) * stride ≤ size
