-- Slices of the grid's lengths: contracts of inner functions.
-- Assumes nothing.
use Rattle.std.specs.Prelude.{◌≡◌, ℕ, ◌*◌, length}
use Rattle.picture.specs.InnerLent.{Slices}
use Rattle.picture.specs.declared.Reference.{Reference}
use Rattle.picture.specs.InnerPicture.{Sized}
use Rattle.picture.specs.Picture.{cell_count}
use Rattle.state.specs.declared.Lengths.{Lengths}

-- the picture, the vectors, the marks and the reference have the lengths of the grid
pub record AllSized (cols rows : ℕ) (l : Lengths) : Type 0 where
  pub picture : Sized cols rows l.y l.cb l.cr
  pub mv : l.mv ≡ 2 * cell_count cols rows
  pub marks : l.marks ≡ cell_count cols rows
  pub reference : Sized cols rows l.ry l.rcb l.rcr

-- the lengths of what is lent, in a `requires`
abbrev pub lent_lengths : Slices → Reference → Lengths
lent_lengths pic reference =
    record {
      y = length pic.y;
      cb = length pic.cb;
      cr = length pic.cr;
      mv = length pic.mv;
      marks = length pic.marks;
      ry = length reference.y.now;
      rcb = length reference.cb.now;
      rcr = length reference.cr.now;
    }
