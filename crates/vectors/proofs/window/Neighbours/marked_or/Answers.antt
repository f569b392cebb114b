-- `vectors::window::Neighbours::marked_or` answers one of its two cells, by the mark.
use mathlib.Core.Path.{sym}
use native.Mathlib.Omega.{arith}
use borrow.Author.Tests.{eq-eqb, ne_eqb}
use Rattle.ints.proofs.Fits.{if_yes, if_no}
use Rattle.vectors.proofs.window.Neighbours.marked_or.Goals as goal

pub returns-then-self-c-eq0 : goal.returns-then-self-c-eq0
returns-then-self-c-eq0 c = (omega (arith, c.requires.0, c.requires.1), sym (if_yes _ _ _ (eq-eqb _ _ c.if-self-c-eq0.true)))

pub returns-else-self-c-eq0 : goal.returns-else-self-c-eq0
returns-else-self-c-eq0 c = (omega (arith, c.requires.0, c.requires.1), sym (if_no _ _ _ (ne_eqb _ _ c.if-self-c-eq0.false)))
