-- `number::received_of` answers `received`: half of n, and what `under` says of its negation less 1.
use Prim.Native.Nat.{◌/◌, ◌%◌, ◌<◌, ◌^◌}
use native.Mathlib.Omega.{arith}
use borrow.Author.Tests.{eq-eqb, ne_eqb}
use Rattle.number.specs.SignedNumber.{received}
use mir.Syntax.{w32}
use mir.Facts.{to_z_pos}
use Rattle.number.proofs.I32.{half-fits, under}
use Rattle.number.proofs.received_of.Goals as goal

pub overflow_sub-result : goal.overflow_sub-result
overflow_sub-result c =
    let k : c.args.n / 2 < 2 ^ 31 = omega arith in half-fits (c.args.n / 2) k

pub overflow_sub-result-then-n-eq1 : goal.overflow_sub-result-then-n-eq1
overflow_sub-result-then-n-eq1 c =
    let k : c.args.n / 2 < 2 ^ 31 = omega arith in (under (c.args.n / 2) k).0

pub returns-then-n-eq1 : goal.returns-then-n-eq1
unfolding received
returns-then-n-eq1 c =
    let k : c.args.n / 2 < 2 ^ 31 = omega arith in rw (eq-eqb (c.args.n % 2) 1 c.if-n-eq1.true) (under (c.args.n / 2) k).1

pub returns-else-n-eq1 : goal.returns-else-n-eq1
unfolding received
returns-else-n-eq1 c =
    let k : c.args.n / 2 < 2 ^ 31 = omega arith in rw (ne_eqb (c.args.n % 2) 1 c.if-n-eq1.false) (to_z_pos w32 k)
