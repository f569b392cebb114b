-- `number::put_number` writes `number v`. The loop holds that the groups of what is left, written from its place on, give the whole.
use mathlib.Core.Path.{◌≡◌}
use Prim.Native.Nat.{◌≤◌, ◌<◌, ◌+◌, ◌-◌, ◌*◌, ◌^◌}
use lib.ListN.{length}
use lib.Seq.{sets}
use Rattle.number.specs.Number.{number, groups}
use Rattle.number.proofs.put_number.Given as goal

abbrev pub invariant-loop-rest : goal.invariant-loop-rest
invariant-loop-rest l =
    (sets l.out l.p (groups (l.at + 4 - l.p) l.rest) ≡ sets l.initial.out l.at (number l.v)) × (l.p + length (groups (l.at + 4 - l.p) l.rest) ≡ l.at + length (number l.v))
    × (length l.out ≡ length l.initial.out) × (l.p ≤ l.at + 4) × (l.rest < 16 * 128 ^ (l.at + 4 - l.p))

abbrev pub decreases-loop-rest : goal.decreases-loop-rest
decreases-loop-rest l = l.rest
