-- One number a turn.
use Rattle.std.proofs.Common.{◌≡◌, take}
use Rattle.transform.specs.InnerPasses.{all_within}
use Rattle.transform.proofs.exact.all_within.Given as goal

abbrev pub invariant-loop-v : goal.invariant-loop-v
invariant-loop-v l = l.small ≡ all_within l.most (take l.v-index l.l)
