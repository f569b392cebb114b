-- `transcript::check::check_coded`: what `parse_motion` answers, without the numbers.
use mathlib.Core.Path.{refl, ◌∙◌}
use Rattle.refusal.proofs.Answered.{handed}
use Rattle.record.specs.Record.{no_vectors}
use Rattle.levels.specs.Items.{no_levels}
use Rattle.transcript.proofs.Checks.{rest_read, rest-refused}
use Rattle.transcript.proofs.check.check_coded.Goals as goal

pub parse_motion-requires : goal.parse_motion-requires
unfolding no_vectors no_levels
parse_motion-requires c = (refl, refl, c.requires)

pub returns-in_err-next : goal.returns-in_err-next
returns-in_err-next c = handed _ _ c.from_residual.ensures ∙ rest-refused c.parse_motion.ensures _ c.in_err-next.was

pub returns : goal.returns
returns c = rest_read c.parse_motion.ensures _ _ c.in_ok-next.was
