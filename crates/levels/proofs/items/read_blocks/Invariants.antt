-- `levels::items::read_blocks`: the lists that are left, joined to those that were read, are the whole.
use Prim.Native.Nat.{◌+◌, ◌-◌, ◌*◌}
use lib.ListN.{drop}
use Rattle.bits.specs.Bits.{bit_list}
use Rattle.levels.specs.declared.svq3_coeff.ResidualBook.TheVariants.{NormalScan}
use Rattle.levels.specs.InnerSides.{read_side}
use Rattle.levels.specs.InnerLeft.{left_side}
use Rattle.levels.proofs.Left.{Goes}
use Rattle.levels.proofs.items.read_blocks.Given as goal

abbrev pub invariant-loop-i : goal.invariant-loop-i
invariant-loop-i l =
    Goes (read_side NormalScan l.start l.count l.place) (left_side NormalScan l.start l.count l.place) l.initial.levels (bit_list l.bits.bytes.now) l.at l.p (read_side NormalScan l.start (l.count - l.i) (l.place + 16 * l.i) l.levels (drop l.p (bit_list l.bits.bytes.now))) (left_side NormalScan l.start (l.count - l.i) (l.place + 16 * l.i) l.levels (drop l.p (bit_list l.bits.bytes.now)))
