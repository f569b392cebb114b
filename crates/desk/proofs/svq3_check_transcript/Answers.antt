-- `svq3_check_transcript`: the count of records fits, for a record has a byte at least.
use mathlib.Core.Path.{sym, ap, ◌∙◌}
use mir.Syntax.{w64}
use mir.Facts.{to_z_pos}
use native.Mathlib.Omega.{arith}
use Rattle.desk.specs.Answer.{check_code}
use Rattle.desk.proofs.Check.{few-records}
use Rattle.desk.proofs.svq3_check_transcript.Goals as goal

pub overflow_cast-result : goal.overflow_cast-result
overflow_cast-result c = record { sfits = omega (arith, few-records _ _ _ (sym c.in-Ok.is ∙ c.check_transcript.ensures)) }

pub returns-in-Ok : goal.returns-in-Ok
returns-in-Ok c = to_z_pos w64 (omega (arith, few-records _ _ _ (sym c.in-Ok.is ∙ c.check_transcript.ensures))) ∙ ap check_code (sym c.in-Ok.is ∙ c.check_transcript.ensures)
