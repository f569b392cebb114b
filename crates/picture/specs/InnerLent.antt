-- The slices of a picture that is lent: contracts of inner functions.
-- Assumes nothing.
use Rattle.std.specs.Prelude.{List, ℕ, ℤ}
use denote.MutBor.{at_last}
use Rattle.picture.specs.declared.Picture.{Picture}

-- what the slices hold
pub record Slices : Type 0 where
  pub y : List ℕ
  pub cb : List ℕ
  pub cr : List ℕ
  pub mv : List ℤ
  pub marks : List ℕ

abbrev pub contents : Picture → Slices
contents pic = record { y = pic.y.now; cb = pic.cb.now; cr = pic.cr.now; mv = pic.mv.now; marks = pic.marks.now }

-- the same slices, with other contents
abbrev pub with_contents : Picture → Slices → Picture
with_contents pic s =
    record {
      y = at_last pic.y s.y;
      cb = at_last pic.cb s.cb;
      cr = at_last pic.cr s.cr;
      mv = at_last pic.mv s.mv;
      marks = at_last pic.marks s.marks;
    }
