-- `levels::items::read_ac` reads the eight lists, or none.
use mathlib.Core.Path.{sym, ◌∙◌}
use Rattle.bits.specs.Bits.{bit_list}
use Rattle.levels.proofs.Sides.{ac-side, ac-place, class-two, not-class-two}
use Rattle.levels.proofs.Left.{side-leaves, side-passed}
use Rattle.levels.proofs.items.read_ac.Goals as goal

pub returns-then-chroma_class-eq2 : goal.returns-then-chroma_class-eq2
returns-then-chroma_class-eq2 c =
    let a = c.args in
    let t = class-two a.pattern (sym c.chroma_class.ensures ∙ c.if-chroma_class-eq2.true) in
    side-leaves ac-side a.pattern a.levels.now (bit_list a.bits.bytes.now) a.at t 264 ac-place _ _ c.read_blocks.ensures

pub returns : goal.returns
returns c =
    let a = c.args in
    let t = not-class-two a.pattern (λ e. c.if-chroma_class-eq2.false (c.chroma_class.ensures ∙ e)) in
    side-passed ac-side a.pattern a.levels.now (bit_list a.bits.bytes.now) a.at t
