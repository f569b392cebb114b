-- `apply::applied::apply_chroma`: compensation, then the residual, of both planes.
use mathlib.Core.Path.{sym, ap, ◌∙◌}
use mathlib.Core.List.{List}
use Prim.Native.Nat.{ℕ}
use lib.Dec.{lit<}
use Rattle.apply.specs.InnerCoded.{record_given}
use Rattle.apply.specs.Blocks.{chroma_added}
use Rattle.apply.proofs.Macroblocks.{coded-chroma, place-within, no-skip}
use Rattle.apply.proofs.applied.apply_chroma.Goals as goal

pub invariant_of-mb : goal.invariant_of-mb
invariant_of-mb c = record { within = place-within c.args.coded.range c.args.coded.wide c.args.coded.high; mode = c.args.coded.range.mode }

pub invariant_of-residual : goal.invariant_of-residual
invariant_of-residual c = let k = c.args.coded.range.coded c.args.coded.some in record { within = place-within c.args.coded.range c.args.coded.wide c.args.coded.high; pattern = k.pattern; quantiser = k.quantiser; count = k.levels.count }

pub add_chroma-requires : goal.add_chroma-requires
add_chroma-requires c = record { pic_len = (c.compensate_chroma.auto.cb ∙ c.requires.0.0, lit< tt); lists = (c.args.coded.range.coded c.args.coded.some).levels }

pub add_chroma-requires-2 : goal.add_chroma-requires-2
add_chroma-requires-2 c = record { pic_len = (c.compensate_chroma.auto.cr ∙ c.requires.1.0, lit< tt); lists = (c.args.coded.range.coded c.args.coded.some).levels }

pub returns : goal.returns
returns c =
    let a = c.args in
    let o = a.coded in
    let some = no-skip o.head.mode o.some in
    record {
      cb_after = c.add_chroma.ensures
          ∙ ap (λ (p : List ℕ). chroma_added 0 o.grid.cols o.head o.levels.now p) c.compensate_chroma.ensures.cb_after
          ∙ sym (coded-chroma o.grid.cols o.grid.rows a.reference.cb.now (record_given o) a.cb.now 0 some);
      cr_after = c.add_chroma-2.ensures
          ∙ ap (λ (p : List ℕ). chroma_added 1 o.grid.cols o.head o.levels.now p) c.compensate_chroma.ensures.cr_after
          ∙ sym (coded-chroma o.grid.cols o.grid.rows a.reference.cr.now (record_given o) a.cr.now 1 some);
    }
