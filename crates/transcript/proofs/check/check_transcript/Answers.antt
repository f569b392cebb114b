-- `transcript::check::check_transcript`: question 1, then the records.
use mathlib.Core.Path.{sym, ◌∙◌}
use Rattle.ints.specs.Z.{when◌then◌else◌}
use Rattle.transcript.specs.Check.{checked}
use Rattle.transcript.proofs.check.check_transcript.Goals as goal

pub returns-then-grid_right : goal.returns-then-grid_right
unfolding checked when◌then◌else◌
returns-then-grid_right c = rw (sym c.grid_right.ensures ∙ c.if-grid_right.true) c.check_records.ensures

pub returns-else-grid_right : goal.returns-else-grid_right
unfolding checked when◌then◌else◌
returns-else-grid_right c = rw (sym c.grid_right.ensures ∙ c.if-grid_right.false)

pub check_records-requires : goal.check_records-requires
check_records-requires c = sym c.grid_right.ensures ∙ c.if-grid_right.true
