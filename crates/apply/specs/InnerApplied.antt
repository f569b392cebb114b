-- What a record does to the slices of a picture: contracts of inner functions.
-- Assumes nothing.
use Rattle.std.specs.Prelude.{ℕ}
use Rattle.picture.specs.InnerField.{lent_field}
use Rattle.picture.specs.InnerLent.{Slices}
use Rattle.picture.specs.declared.Reference.{Reference}
use Rattle.record.specs.Record.{Record}
use Rattle.apply.specs.Apply.{applied_luma, applied_chroma, applied_field}

abbrev pub applied_slices : ℕ → ℕ → Reference → Record → Slices → Slices
applied_slices cols rows reference r s =
    let f = applied_field r (lent_field cols rows s.mv s.marks) in
    record {
      y = applied_luma cols rows reference.y.now r s.y;
      cb = applied_chroma 0 cols rows reference.cb.now r s.cb;
      cr = applied_chroma 1 cols rows reference.cr.now r s.cr;
      mv = f.mv;
      marks = f.marks;
    }
