-- `transcript::write::put_chroma` writes chroma DC and chroma AC, chroma DC alone, or nothing.
use mathlib.Core.Path.{sym, ◌∙◌}
use native.Mathlib.Omega.{arith}
use Rattle.levels.proofs.Sides.{ac-side, ac-place, class-two, not-class-two}
use Rattle.record.proofs.SideBytes.{side-written, side-unwritten}
use Rattle.transcript.proofs.Writing.{written_none, still-room, still-last, still-none, no-chroma-bytes, part-most, dc-fits, dc-still}
use Rattle.transcript.proofs.write.put_chroma.Goals as goal

pub returns-then-class-eq0 : goal.returns-then-class-eq0
returns-then-class-eq0 c = let a = c.args in written_none a.out.now a.at _ (no-chroma-bytes a.pattern a.levels.now (sym c.chroma_class-class.ensures ∙ c.if-class-eq0.true))

pub put_list-p-requires : goal.put_list-p-requires
put_list-p-requires c =
    let a = c.args in
    (omega (arith, part-most a.levels.now 256 264 8 (omega arith)), dc-fits a.pattern a.levels.now a.out.now a.at (λ e. c.if-class-eq0.false (c.chroma_class-class.ensures ∙ e)) c.requires)

pub put_ac-requires : goal.put_ac-requires
put_ac-requires c =
    let a = c.args in
    let class = c.chroma_class-class.ensures in
    let d = dc-still a.pattern a.levels.now (λ e. c.if-class-eq0.false (class ∙ e)) c.put_list-p.ensures in
    rw (side-written ac-side a.pattern (class-two a.pattern (sym class ∙ c.if-class-eq2.true)) 264 ac-place a.levels.now) at (still-room d c.requires)

pub returns-then-class-eq2 : goal.returns-then-class-eq2
returns-then-class-eq2 c =
    let a = c.args in
    let class = c.chroma_class-class.ensures in
    let d = dc-still a.pattern a.levels.now (λ e. c.if-class-eq0.false (class ∙ e)) c.put_list-p.ensures in
    still-last d (rw (side-written ac-side a.pattern (class-two a.pattern (sym class ∙ c.if-class-eq2.true)) 264 ac-place a.levels.now) c.put_ac.ensures)

pub returns : goal.returns
returns c =
    let a = c.args in
    let class = c.chroma_class-class.ensures in
    let d = dc-still a.pattern a.levels.now (λ e. c.if-class-eq0.false (class ∙ e)) c.put_list-p.ensures in
    still-none d (side-unwritten ac-side a.pattern (not-class-two a.pattern (λ e. c.if-class-eq2.false (class ∙ e))) a.levels.now)
