-- `vectors::window::Neighbours::predicted` answers `combined` of three cells: their median where none is marked 0.
use mathlib.Core.Path.{sym, ◌∙◌}
use Rattle.vectors.proofs.Predictors.{all_here}
use Rattle.vectors.proofs.window.Neighbours.predicted.Goals as goal

pub returns : goal.returns
returns c = let a = c.args in c.median_of.ensures ∙ sym (all_here a.self.now a.a a.b a.c c.if-self-a.false)
