-- `transcript::write::put_signed_numbers`: the numbers that are left, written at their place, give the whole.
use lib.ListN.{drop}
use Rattle.record.specs.Write.{signed_numbers}
use Rattle.transcript.proofs.Writing.{Still}
use Rattle.transcript.proofs.write.put_signed_numbers.Given as goal

abbrev pub invariant-loop-v : goal.invariant-loop-v
invariant-loop-v l = Still l.initial.out l.at (signed_numbers l.numbers) l.out l.p (signed_numbers (drop l.v-index l.numbers))
