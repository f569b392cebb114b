-- `printing::header::read_ranged`: what `read_number` answered, where it is in range.
use mathlib.Core.Path.{sym, ◌∙◌}
use Rattle.refusal.proofs.Answered.{handed}
use Rattle.printing.proofs.Headers.{within, beyond, no-form}
use Rattle.printing.proofs.header.read_ranged.Goals as goal

pub returns-then-least-v : goal.returns-then-least-v
returns-then-least-v c = let a = c.args in within a.at a.least a.most _ _ _ (sym c.in_ok-v.was ∙ c.read_number.ensures) c.if-least-v.true

pub returns-else-least-v : goal.returns-else-least-v
returns-else-least-v c = let a = c.args in beyond a.at a.least a.most _ _ _ (sym c.in_ok-v.was ∙ c.read_number.ensures) c.if-least-v.false

pub returns-in_err-v : goal.returns-in_err-v
returns-in_err-v c = let a = c.args in handed _ _ c.from_residual.ensures ∙ no-form a.at a.least a.most _ _ (sym c.in_err-v.was ∙ c.read_number.ensures)
