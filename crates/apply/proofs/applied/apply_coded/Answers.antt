-- `apply::applied::apply_coded`: luma, chroma, then the cells.
use mathlib.Core.Path.{sym, ap, ◌∙◌}
use Rattle.picture.specs.Field.{Field}
use Rattle.picture.specs.InnerField.{lent_field}
use Rattle.picture.specs.InnerLent.{with_contents}
use Rattle.apply.specs.InnerCoded.{record_given}
use Rattle.apply.proofs.Macroblocks.{place-within, no-skip}
use Rattle.apply.proofs.Fields.{coded-field}
use Rattle.apply.proofs.applied.apply_coded.Goals as goal

pub invariant_of-mb : goal.invariant_of-mb
invariant_of-mb c = record { within = place-within c.args.coded.range c.args.coded.wide c.args.coded.high; mode = c.args.coded.range.mode }

pub store_partitions-requires : goal.store_partitions-requires
store_partitions-requires c = record { some = c.args.coded.some; mv_len = (c.requires.mv, c.requires.marks) }

pub returns : goal.returns
returns c =
    let a = c.args in
    let p = a.pic.now in
    let o = a.coded in
    let field = coded-field (record_given o) (lent_field o.grid.cols o.grid.rows p.mv.now p.marks.now) (no-skip o.head.mode o.some) in
    let cell = c.store_partitions.ensures in
    let mv = cell.mv_after ∙ sym (ap (λ (f : Field). f.mv) field) in
    let marks = cell.marks_after ∙ sym (ap (λ (f : Field). f.marks) field) in
    let z = c.requires in
    record {
      applied = λ i. with_contents p (record { y = c.apply_luma.ensures i; cb = c.apply_chroma.ensures.cb_after i; cr = c.apply_chroma.ensures.cr_after i; mv = mv i; marks = marks i });
      sized = record {
        picture = record { luma_right = c.apply_luma.auto.pic ∙ z.picture.luma_right; cb_right = c.apply_chroma.auto.cb ∙ z.picture.cb_right; cr_right = c.apply_chroma.auto.cr ∙ z.picture.cr_right };
        mv = c.store_partitions.auto.mv ∙ z.mv;
        marks = c.store_partitions.auto.marks ∙ z.marks;
        reference = z.reference;
      };
    }
