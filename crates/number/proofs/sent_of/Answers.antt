-- `number::sent_of` answers `sent`: each step of a negative v by `turn`, of another by `whole`.
use mathlib.Core.Path.{sym, ap}
use native.Mathlib.Omega.{arith}
use Rattle.number.specs.SignedNumber.{sent}
use Rattle.number.proofs.I32.{turned, turn, whole}
use Rattle.number.proofs.sent_of.Goals as goal

pub overflow_add-result : goal.overflow_add-result
unfolding turned sent
overflow_add-result c =
    (turn c.args.v c.ranges.v c.if-v-lt0.true).adds

pub overflow_sub-result : goal.overflow_sub-result
unfolding turned sent
overflow_sub-result c =
    (turn c.args.v c.ranges.v c.if-v-lt0.true).subs

pub overflow_cast-result : goal.overflow_cast-result
unfolding turned sent
overflow_cast-result c =
    let t = turn c.args.v c.ranges.v c.if-v-lt0.true in rw t.value (tt, record { fits = omega (arith, t.small) })

pub overflow_mul-result : goal.overflow_mul-result
unfolding turned sent
overflow_mul-result c =
    let t = turn c.args.v c.ranges.v c.if-v-lt0.true in rw t.value (record { fits = omega (arith, t.small) })

pub overflow_add-result-then-v-lt0 : goal.overflow_add-result-then-v-lt0
unfolding turned sent
overflow_add-result-then-v-lt0 c =
    let t = turn c.args.v c.ranges.v c.if-v-lt0.true in rw t.value (record { fits = omega (arith, t.small) })

pub overflow_cast-result-else-v-lt0 : goal.overflow_cast-result-else-v-lt0
unfolding turned sent
overflow_cast-result-else-v-lt0 c =
    let t = whole c.args.v c.ranges.v c.if-v-lt0.false in rw t.3 (tt, record { fits = omega (arith, t.2) })

pub overflow_mul-result-else-v-lt0 : goal.overflow_mul-result-else-v-lt0
unfolding turned sent
overflow_mul-result-else-v-lt0 c =
    let t = whole c.args.v c.ranges.v c.if-v-lt0.false in rw t.3 (record { fits = omega (arith, t.2) })

pub returns-then-v-lt0 : goal.returns-then-v-lt0
unfolding turned sent
returns-then-v-lt0 c =
    let t = turn c.args.v c.ranges.v c.if-v-lt0.true in rw t.value (ap sent (sym t.is))

pub returns-else-v-lt0 : goal.returns-else-v-lt0
unfolding turned sent
returns-else-v-lt0 c =
    let t = whole c.args.v c.ranges.v c.if-v-lt0.false in rw t.3 (ap sent (sym t.1))
