-- `number::put_number` writes `number v`. The loop holds that the groups of what is left, written from its place on, give the whole.
use mathlib.Core.Path.{◌≡◌, refl, sym, ap, ◌∙◌}
use Prim.Native.Nat.{ℕ, ◌+◌, ◌-◌, ◌%◌}
use native.Mathlib.Omega.{arith}
use native.Mathlib.Numerals.{add-one}
use lib.ListN.{length, length-set}
use lib.Seq.{sets}
use Rattle.number.specs.Number.{number}
use Rattle.number.proofs.Numbers.{one-group, writes-on, some_bytes}
use Rattle.number.proofs.put_number.Goals as goal

pub loop-rest-init : goal.loop-rest-init
unfolding number
loop-rest-init c =
    let e : c.args.at + 4 - c.args.at ≡ 4 = omega arith in
    rw e (refl, refl, refl, omega arith, omega arith)

pub overflow_add-out : goal.overflow_add-out
overflow_add-out c = omega arith

pub overflow_cast-out : goal.overflow_cast-out
overflow_cast-out c = omega arith

pub bounds-out-p : goal.bounds-out-p
bounds-out-p c = omega (arith, some_bytes (c.args.at + 4 - c.loop-rest.p) c.loop-rest.rest)

pub overflow_add-p : goal.overflow_add-p
overflow_add-p c = omega (arith, some_bytes (c.args.at + 4 - c.loop-rest.p) c.loop-rest.rest)

pub loop-rest-smaller : goal.loop-rest-smaller
loop-rest-smaller c = omega arith

pub loop-rest-preserved : goal.loop-rest-preserved
loop-rest-preserved c =
    let l = c.loop-rest in
    let room : ℕ = c.args.at + 4 - l.p in
    let m = writes-on room l.rest c.loop-rest-test.true l.invariant.4 in
    let e : c.args.at + 4 - (l.p + 1) ≡ room - 1 = omega arith in (
      rw (e, add-one) (ap (sets l.out l.p) (sym m.0) ∙ l.invariant.0),
      rw e (omega (arith, ap length m.0)),
      length-set l.out l.p (l.rest % 128 + 128) ∙ l.invariant.2,
      omega (arith, m.2),
      rw e m.1,
    )

pub overflow_cast-out-2 : goal.overflow_cast-out-2
overflow_cast-out-2 c = omega arith

pub bounds-out-p-2 : goal.bounds-out-p-2
bounds-out-p-2 c = omega (arith, some_bytes (c.args.at + 4 - c.loop-rest.p) c.loop-rest.rest)

pub overflow_add-result : goal.overflow_add-result
overflow_add-result c = omega (arith, some_bytes (c.args.at + 4 - c.loop-rest.p) c.loop-rest.rest)

pub shape_of-out : goal.shape_of-out
shape_of-out c = simp length-set c.loop-rest.invariant.2

pub returns : goal.returns
returns c =
    let l = c.loop-rest in
    let e = one-group (c.args.at + 4 - l.p) l.rest c.loop-rest-test.false in
    (omega (arith, ap length e), ap (sets l.out l.p) (sym e) ∙ l.invariant.0)
