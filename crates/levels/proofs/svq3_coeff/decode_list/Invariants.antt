-- `levels::svq3_coeff::decode_list`: each turn keeps `Reading` and a window of the bits at its place, and each way out is one of the laws of `Reading`.
use mathlib.Core.Path.{◌≡◌}
use Prim.Native.Nat.{◌-◌}
use lib.ListN.{drop}
use Rattle.bits.specs.Bits.{bit_list}
use Rattle.bits.specs.InnerWindow.{Shows}
use Rattle.levels.specs.Book.{positions}
use Rattle.levels.proofs.Reading.{Reading}
use Rattle.levels.proofs.svq3_coeff.decode_list.Given as goal

abbrev pub invariant-loop-taken : goal.invariant-loop-taken
invariant-loop-taken l =
    Reading l.book l.start l.at (bit_list l.bits.bytes.now) l.initial.out l.base l.position l.p l.out × (l.count ≡ positions l.book) × Shows l.window.word l.window.known (drop l.p (bit_list l.bits.bytes.now))

abbrev pub decreases-loop-taken : goal.decreases-loop-taken
decreases-loop-taken l = positions l.book - l.position
