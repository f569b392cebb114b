-- `number::read_groups` answers `read_number`. The loop holds that the groups so far, joined to the number behind them, give the answer.
use mathlib.Core.Path.{◌≡◌}
use Prim.Native.Nat.{◌≤◌, ◌<◌, ◌-◌, ◌^◌}
use lib.ListN.{length, drop}
use Rattle.number.specs.Number.{read_number}
use Rattle.refusal.specs.Answered.{answered}
use Rattle.number.proofs.Reading.{joined}
use Rattle.number.proofs.read_groups.Given as goal

abbrev pub invariant-loop-p : goal.invariant-loop-p
invariant-loop-p l =
    (joined l.at l.p l.a l.unit (read_number (drop l.p l.s)) ≡ answered l.at (read_number (drop l.at l.s))) × (l.a < l.unit) × (l.unit ≡ 128 ^ (l.p - l.at)) × (l.at ≤ l.p) × (l.p - l.at ≤ 4)

abbrev pub decreases-loop-p : goal.decreases-loop-p
decreases-loop-p l = length l.s - l.p
