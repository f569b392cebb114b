-- `bits::svq3::read_on` answers `code_from` at its place. The invariant: reading on from the marker at p gives the answer, and m has room for the data bits that may come.
use mathlib.Core.Path.{◌≡◌}
use Rattle.bits.proofs.CodeStep.{code_rest}
use Prim.Native.Nat.{◌≤◌, ◌<◌, ◌+◌, ◌*◌, ◌^◌}
use Rattle.bits.proofs.svq3.read_on.Given as goal

abbrev pub invariant-loop-p : goal.invariant-loop-p
invariant-loop-p l = (code_rest l.bits.bytes.now l.p l.room l.m ≡ code_rest l.bits.bytes.now l.at l.spare l.head) × ((l.m + 1) * 2 ^ l.room ≤ 2 ^ 32) × (0 < l.m)

abbrev pub decreases-loop-p : goal.decreases-loop-p
decreases-loop-p l = l.room
