-- `transcript::write::all_short`: one number a turn.
use mathlib.Core.Path.{◌≡◌}
use Rattle.transcript.specs.InnerSent.{short_sent}
use Rattle.transcript.proofs.write.all_short.Given as goal

abbrev pub invariant-loop-h : goal.invariant-loop-h
invariant-loop-h l = (l.short ≡ short_sent l.held l.h-index)
