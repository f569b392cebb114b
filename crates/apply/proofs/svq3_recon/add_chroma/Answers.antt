-- `apply::svq3_recon::add_chroma`: by the class of the pattern.
use mathlib.Core.Path.{◌≡◌, sym, ap, ◌∙◌}
use mathlib.Core.Bool.{true, false}
use Prim.Native.Nat.{ℕ}
use lib.Dec.{ltb, eqb, lit<}
use borrow.Author.Tests.{lt-ltb, le-ltb}
use Rattle.ints.specs.Z.{when◌then◌else◌}
use Rattle.picture.proofs.Laws.{plane-inside}
use Rattle.levels.specs.Pattern.{class_of}
use Rattle.apply.specs.Blocks.{chroma_added}
use Rattle.apply.proofs.Residuals.{four-chroma, no-ac}
use Rattle.apply.proofs.svq3_recon.add_chroma.Goals as goal

pub invariant_of-add_square : goal.invariant_of-add_square
invariant_of-add_square c = record { ranged = c.args.residual.quantiser }

pub add_square-requires : goal.add_square-requires
add_square-requires c =
    record { inside = (plane-inside 8 (lit< tt) c.args.residual.within c.requires.pic_len.0, c.requires.pic_len.1); pos_value = (λ e. no-ac c.args.residual.head.pattern c.args.plane c.args.residual.levels.now c.requires.lists c.requires.pic_len.1 (ap (λ (n : ℕ). eqb n 2) (sym c.chroma_class-class.ensures) ∙ e)) }

pub returns-then-class-gt0 : goal.returns-then-class-gt0
unfolding chroma_added when◌then◌else◌
returns-then-class-gt0 c =
    let a = c.args in
    let e : ltb 0 (class_of a.residual.head.pattern) ≡ true = ap (ltb 0) (sym c.chroma_class-class.ensures) ∙ lt-ltb 0 _ c.if-class-gt0.true in
    rw e (c.add_square.ensures ∙ sym (four-chroma a.plane a.residual.grid.cols a.residual.head a.residual.levels.now a.pic.now c.requires.pic_len.1))

pub returns-else-class-gt0 : goal.returns-else-class-gt0
unfolding chroma_added when◌then◌else◌
returns-else-class-gt0 c =
    let a = c.args in
    let e : ltb 0 (class_of a.residual.head.pattern) ≡ false = ap (ltb 0) (sym c.chroma_class-class.ensures) ∙ le-ltb 0 _ c.if-class-gt0.false in
    rw e
