-- `levels::items::read_chroma` reads chroma DC, then chroma AC unless chroma DC is refused.
use mathlib.Core.Path.{sym, ◌∙◌}
use Rattle.bits.specs.Bits.{bit_list}
use Rattle.levels.specs.Items.{read_items}
use Rattle.levels.specs.InnerLeft.{left_items}
use Rattle.levels.proofs.Sides.{dc-side, dc-place, some-class}
use Rattle.refusal.proofs.Answered.{handed}
use Rattle.levels.proofs.Left.{goes-all, goes_last, side-leaves, items-on, items-stop, no-chroma}
use Rattle.levels.proofs.items.read_chroma.Goals as goal

pub returns-then-chroma_class-eq0 : goal.returns-then-chroma_class-eq0
returns-then-chroma_class-eq0 c =
    let a = c.args in
    no-chroma a.pattern (sym c.chroma_class.ensures ∙ c.if-chroma_class-eq0.true) a.levels.now (bit_list a.bits.bytes.now) a.at

pub returns : goal.returns
returns c =
    let a = c.args in
    let s = bit_list a.bits.bytes.now in
    let t = some-class a.pattern (λ e. c.if-chroma_class-eq0.false (c.chroma_class.ensures ∙ e)) in
    let g = items-on a.pattern 2 8 16 a.at a.levels.now (goes-all (read_items 10 16 a.pattern) (left_items 10 16 a.pattern) a.levels.now s a.at) _ _ (side-leaves dc-side a.pattern a.levels.now s a.at t 256 dc-place _ _ c.read_dc.ensures) _ c.in_ok-next.was in
    goes_last _ _ _ _ _ g c.read_ac.ensures.answers c.read_ac.ensures.leaves

pub returns-in_err-next : goal.returns-in_err-next
returns-in_err-next c =
    let a = c.args in
    let s = bit_list a.bits.bytes.now in
    let t = some-class a.pattern (λ e. c.if-chroma_class-eq0.false (c.chroma_class.ensures ∙ e)) in
    rw (handed _ _ c.from_residual.ensures) (items-stop a.pattern 2 8 16 a.at a.levels.now (goes-all (read_items 10 16 a.pattern) (left_items 10 16 a.pattern) a.levels.now s a.at) _ _ (side-leaves dc-side a.pattern a.levels.now s a.at t 256 dc-place _ _ c.read_dc.ensures) _ c.in_err-next.was)
