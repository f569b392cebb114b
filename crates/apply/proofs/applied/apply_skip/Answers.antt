-- `apply::applied::apply_skip`: the three blocks copied, the cells marked.
use mathlib.Core.Path.{sym, ap, ◌∙◌}
use Prim.Native.Nat.{ℕ, ◌*◌}
use Rattle.vectors.proofs.Following.{macroblock-cells}
use Rattle.picture.specs.InnerLent.{with_contents}
use Rattle.apply.proofs.Macroblocks.{skipped-luma, skipped-chroma}
use Rattle.apply.proofs.Fields.{skipped-mv, skipped-marks}
use Rattle.apply.proofs.applied.apply_skip.Goals as goal

pub copy_macroblock_from-requires : goal.copy_macroblock_from-requires
copy_macroblock_from-requires c = record { within = c.requires.within; sized = c.requires.all_sized.picture; sized_2 = c.requires.all_sized.reference }

pub mark_macroblock-requires : goal.mark_macroblock-requires
mark_macroblock-requires c = (c.requires.within.wide, c.requires.all_sized.mv ∙ ap (λ (n : ℕ). 2 * n) (sym c.requires.all_sized.marks), macroblock-cells c.requires.within c.requires.all_sized.marks)

pub returns : goal.returns
returns c =
    let a = c.args in
    let p = a.pic.now in
    let plane = c.copy_macroblock_from.ensures in
    let cell = c.mark_macroblock.ensures in
    let y = plane.y_after ∙ sym (skipped-luma a.grid.cols a.grid.rows a.reference.y.now a.column a.row p.y.now) in
    let cb = plane.cb_after ∙ sym (skipped-chroma 0 a.grid.cols a.grid.rows a.reference.cb.now a.column a.row p.cb.now) in
    let cr = plane.cr_after ∙ sym (skipped-chroma 1 a.grid.cols a.grid.rows a.reference.cr.now a.column a.row p.cr.now) in
    let mv = cell.mv_after ∙ sym (skipped-mv a.grid.cols a.grid.rows a.column a.row p.mv.now p.marks.now) in
    let marks = cell.marks_after ∙ sym (skipped-marks a.grid.cols a.grid.rows a.column a.row p.mv.now p.marks.now) in
    let z = c.requires.all_sized in
    record {
      applied = λ i. with_contents p (record { y = y i; cb = cb i; cr = cr i; mv = mv i; marks = marks i });
      sized = record {
        picture = record { luma_right = c.copy_macroblock_from.auto.y ∙ z.picture.luma_right; cb_right = c.copy_macroblock_from.auto.cb ∙ z.picture.cb_right; cr_right = c.copy_macroblock_from.auto.cr ∙ z.picture.cr_right };
        mv = c.mark_macroblock.auto.mv ∙ z.mv;
        marks = c.mark_macroblock.auto.marks ∙ z.marks;
        reference = z.reference;
      };
    }
