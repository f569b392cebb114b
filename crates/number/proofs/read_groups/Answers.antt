-- `number::read_groups` answers `read_number`. The loop holds that the groups so far, joined to the number behind them, give the answer.
use mathlib.Core.Path.{◌≡◌, sym, ◌∙◌}
use Prim.Native.Nat.{suc, ◌+◌, ◌-◌}
use native.Mathlib.Omega.{arith}
use lib.ListN.{drop, get_or}
use lib.Dec.{lit<}
use Rattle.number.proofs.Reading.{start, ends, last-group, large, not-shortest, fine, goes_on, sixth, group-most, group-room, next-value}
use Rattle.number.proofs.read_groups.Goals as goal

pub loop-p-init : goal.loop-p-init
loop-p-init c =
    let at = c.args.at in
    let z : at - at ≡ 0 = omega arith in
    (start at (drop at c.args.s.now), lit< tt, rw z, omega arith, omega arith)

pub returns-then-s-p : goal.returns-then-s-p
returns-then-s-p c =
    let l = c.loop-p in
    sym (ends c.args.s.now c.args.at l.p l.a l.unit c.if-s-p.true) ∙ l.invariant.0

pub bounds-s-p : goal.bounds-s-p
bounds-s-p c = omega arith

pub overflow_mul-v : goal.overflow_mul-v
overflow_mul-v c =
    let l = c.loop-p in
    let k = c.type_inv.s l.p in
    let m = group-most _ l.unit (get_or c.args.s.now l.p 0) l.invariant.4 l.invariant.2 (omega arith) in
    omega arith

pub overflow_add-v : goal.overflow_add-v
overflow_add-v c =
    let l = c.loop-p in
    let k = c.type_inv.s l.p in
    let m = group-most _ l.unit (get_or c.args.s.now l.p 0) l.invariant.4 l.invariant.2 (omega arith) in
    omega arith

pub returns-then-v-ge4294967296 : goal.returns-then-v-ge4294967296
returns-then-v-ge4294967296 c =
    let l = c.loop-p in
    let x = c.args in
    sym (large x.at l.p l.a l.unit (get_or x.s.now l.p 0) 1 c.if-v-ge4294967296.true)
    ∙ sym (last-group x.s.now x.at l.p l.a l.unit (omega arith) (omega arith)) ∙ l.invariant.0

pub returns-then-at-p : goal.returns-then-at-p
returns-then-at-p c =
    let l = c.loop-p in
    let x = c.args in
    sym (not-shortest x.at l.p l.a l.unit (get_or x.s.now l.p 0) 1 c.if-v-ge4294967296.false c.if-at-p.true)
    ∙ sym (last-group x.s.now x.at l.p l.a l.unit (omega arith) (omega arith)) ∙ l.invariant.0

pub returns-then-b-lt128 : goal.returns-then-b-lt128
returns-then-b-lt128 c =
    let l = c.loop-p in
    let x = c.args in
    (sym (fine x.at l.p l.a l.unit (get_or x.s.now l.p 0) 1 c.if-v-ge4294967296.false c.if-at-p.false)
    ∙ sym (last-group x.s.now x.at l.p l.a l.unit (omega arith) (omega arith)) ∙ l.invariant.0)

pub returns-then-unit-ge268435456 : goal.returns-then-unit-ge268435456
returns-then-unit-ge268435456 c =
    let l = c.loop-p in
    let x = c.args in
    let k = c.type_inv.s l.p in
    sym (sixth x.s.now x.at l.p l.a l.unit (omega arith) (omega arith) (omega arith) l.invariant.3 c.if-unit-ge268435456.true) ∙ l.invariant.0

pub overflow_mul-a : goal.overflow_mul-a
overflow_mul-a c =
    let l = c.loop-p in
    let k = c.type_inv.s l.p in
    let m = next-value l.a l.unit (get_or c.args.s.now l.p 0 - 128) l.invariant.1 (omega arith) in
    omega arith

pub overflow_add-a : goal.overflow_add-a
overflow_add-a c =
    let l = c.loop-p in
    let k = c.type_inv.s l.p in
    let m = next-value l.a l.unit (get_or c.args.s.now l.p 0 - 128) l.invariant.1 (omega arith) in
    omega arith

pub overflow_mul-unit : goal.overflow_mul-unit
overflow_mul-unit c = omega arith

pub overflow_add-p : goal.overflow_add-p
overflow_add-p c = omega arith

pub loop-p-smaller : goal.loop-p-smaller
loop-p-smaller c = omega arith

pub loop-p-preserved : goal.loop-p-preserved
loop-p-preserved c =
    let l = c.loop-p in
    let x = c.args in
    let k = c.type_inv.s l.p in
    let g = group-room _ l.unit l.invariant.2 c.if-unit-ge268435456.false in
    let n : l.p + 1 - x.at ≡ suc (l.p - x.at) = omega arith in (
      (sym (goes_on x.s.now x.at l.p l.a l.unit (omega arith) (omega arith) (omega arith) l.invariant.3 (omega arith)) ∙ l.invariant.0),
      next-value l.a l.unit (get_or c.args.s.now l.p 0 - 128) l.invariant.1 (omega arith),
      rw n g.1,
      omega arith,
      omega (arith, g.0),
    )
