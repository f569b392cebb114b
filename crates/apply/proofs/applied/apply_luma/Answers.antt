-- `apply::applied::apply_luma`: compensation, then the residual.
use mathlib.Core.Path.{sym, ap, ◌∙◌}
use mathlib.Core.List.{List}
use Prim.Native.Nat.{ℕ}
use Rattle.apply.specs.InnerCoded.{record_given}
use Rattle.apply.specs.Blocks.{luma_up_to}
use Rattle.apply.proofs.Macroblocks.{coded-luma, place-within, no-skip}
use Rattle.apply.proofs.applied.apply_luma.Goals as goal

pub invariant_of-mb : goal.invariant_of-mb
invariant_of-mb c = record { within = place-within c.args.coded.range c.args.coded.wide c.args.coded.high; mode = c.args.coded.range.mode }

pub invariant_of-residual : goal.invariant_of-residual
invariant_of-residual c = let k = c.args.coded.range.coded c.args.coded.some in record { within = place-within c.args.coded.range c.args.coded.wide c.args.coded.high; pattern = k.pattern; quantiser = k.quantiser; count = k.levels.count }

pub returns : goal.returns
returns c =
    let a = c.args in
    let o = a.coded in
    c.add_luma.ensures
    ∙ ap (λ (p : List ℕ). luma_up_to 16 o.grid.cols o.head o.levels.now p) c.compensate_luma.ensures
    ∙ sym (coded-luma o.grid.cols o.grid.rows a.reference.now (record_given o) a.pic.now (no-skip o.head.mode o.some))
