-- Two states that differ in one macroblock alone.
-- Assumes nothing.
use Rattle.std.specs.Prelude.{◌≡◌, false, List, ℕ, ◌*◌, ◌/◌, ℤ, length, get_or}
use Rattle.picture.specs.Painted.{inside}
use Rattle.state.specs.State.{State}
use Rattle.theorems.specs.Samples.{Plane, reference_of, picture_of, unit_of}

-- l' has the length of l, and at each place outside the w × h places from column x of row y on what l has there
pub record Outside {A : Type 0} (stride x y w h : ℕ) (l l' : List A) : Type 0 where
  pub size : length l' ≡ length l
  pub same : (k : ℕ) (d : A) → inside stride x y w h k ≡ false → get_or l' k d ≡ get_or l k d

-- outside the macroblock in this column of this row: in a plane that has 16 / u samples a macroblock each way; in the marks, one for each of its 4 × 4 cells; in the vectors, two numbers a cell
abbrev pub SamplesOutside : ℕ → ℕ → ℕ → ℕ → List ℕ → List ℕ → Type 0
SamplesOutside u cols column row = Outside (16 / u * cols) (16 / u * column) (16 / u * row) (16 / u) (16 / u)

abbrev pub MarksOutside : ℕ → ℕ → ℕ → List ℕ → List ℕ → Type 0
MarksOutside cols column row = Outside (4 * cols) (4 * column) (4 * row) 4 4

abbrev pub VectorsOutside : ℕ → ℕ → ℕ → List ℤ → List ℤ → Type 0
VectorsOutside cols column row = Outside (2 * (4 * cols)) (2 * (4 * column)) (4 * row) (2 * 4) 4

-- t has the samples, vectors and marks of s outside that macroblock, and its reference
pub record StateOutside (column row : ℕ) (s t : State) : Type 0 where
  pub samples : (plane : Plane) → SamplesOutside (unit_of plane) s.cols column row (picture_of plane s) (picture_of plane t)
  pub vectors : VectorsOutside s.cols column row s.mv t.mv
  pub marks : MarksOutside s.cols column row s.marks t.marks
  pub references : (plane : Plane) → reference_of plane t ≡ reference_of plane s
