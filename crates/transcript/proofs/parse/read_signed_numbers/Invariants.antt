-- `transcript::parse::read_signed_numbers`: the numbers that are stored, joined to those still to be read, are all of them.
use lib.ListN.{length}
use Rattle.transcript.proofs.Reading.{Taking}
use Rattle.transcript.proofs.parse.read_signed_numbers.Given as goal

abbrev pub invariant-loop-number : goal.invariant-loop-number
invariant-loop-number l = Taking l.initial.out (length l.initial.out) l.bytes l.at l.number-index l.p l.out
