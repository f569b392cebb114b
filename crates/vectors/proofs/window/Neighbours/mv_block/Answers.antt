-- `vectors::window::Neighbours::mv_block` answers `shown_at`, by the mark.
use mathlib.Core.Path.{sym}
use borrow.Author.Tests.{eq-eqb, ne_eqb}
use Rattle.ints.proofs.Fits.{if_yes, if_no}
use Rattle.vectors.specs.InnerWindow.{shown_at}
use Rattle.vectors.proofs.window.Neighbours.mv_block.Goals as goal

pub returns-then-self-i-eq0 : goal.returns-then-self-i-eq0
unfolding shown_at
returns-then-self-i-eq0 c = sym (if_yes _ _ _ (eq-eqb _ _ c.if-self-i-eq0.true))

pub returns-else-self-i-eq0 : goal.returns-else-self-i-eq0
unfolding shown_at
returns-else-self-i-eq0 c = sym (if_no _ _ _ (ne_eqb _ _ c.if-self-i-eq0.false))
