-- `levels::items::read_items`: what is still to be read, joined to what was read, is the whole.
use Prim.Native.Nat.{◌-◌, ◌*◌}
use lib.ListN.{drop}
use Rattle.bits.specs.Bits.{bit_list}
use Rattle.levels.specs.Items.{read_items}
use Rattle.levels.specs.InnerLeft.{left_items}
use Rattle.levels.proofs.Left.{Goes}
use Rattle.levels.proofs.items.read_items.Given as goal

abbrev pub invariant-loop-q : goal.invariant-loop-q
invariant-loop-q l =
    Goes (read_items 26 0 l.pattern) (left_items 26 0 l.pattern) l.initial.levels (bit_list l.bits.bytes.now) l.at l.p (read_items (26 - 4 * l.q) (4 * l.q) l.pattern l.levels (drop l.p (bit_list l.bits.bytes.now))) (left_items (26 - 4 * l.q) (4 * l.q) l.pattern l.levels (drop l.p (bit_list l.bits.bytes.now)))
