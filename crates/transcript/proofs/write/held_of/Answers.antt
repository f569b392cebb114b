-- `transcript::write::held_of`: the sum is `held_of`.
use native.Mathlib.Omega.{arith}
use Rattle.std.proofs.lemmas.Int.{ints, clamps}
use Rattle.transcript.specs.InnerSent.{held_of}
use Rattle.transcript.proofs.write.held_of.Goals as goal

pub returns : goal.returns
unfolding held_of
returns c = grind (arith, ints, clamps)
