-- `transcript::write::all_short`: one number a turn.
use mathlib.Core.Path.{refl}
use native.Mathlib.Numerals.{add-one}
use Rattle.transcript.specs.InnerSent.{short_sent}
use Rattle.transcript.proofs.write.all_short.Goals as goal

pub loop-h-init : goal.loop-h-init
unfolding short_sent
loop-h-init c = refl

pub loop-h-preserved : goal.loop-h-preserved
unfolding short_sent
loop-h-preserved c = rw (add-one c.loop-h.h-index, c.loop-h.invariant)
