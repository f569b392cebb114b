-- `transcript::check::check_records`: the records counted so far and those still to be read are all of them.
use Prim.Native.Nat.{◌-◌}
use lib.ListN.{length}
use Rattle.refusal.proofs.Lists.{Counting}
use Rattle.record.specs.Parse.{parse_record}
use Rattle.transcript.specs.Records.{records}
use Rattle.transcript.specs.Check.{check_answer}
use Rattle.std.specs.Prelude.{Ok, Err}
use Rattle.transcript.proofs.check.check_records.Given as goal

abbrev pub invariant-loop-at : goal.invariant-loop-at
invariant-loop-at l = Counting (parse_record l.grid.cols l.grid.rows) Ok Err (check_answer (records l.grid.cols l.grid.rows l.bytes)) l.bytes l.at l.count

abbrev pub decreases-loop-at : goal.decreases-loop-at
decreases-loop-at l = length l.bytes - l.at
