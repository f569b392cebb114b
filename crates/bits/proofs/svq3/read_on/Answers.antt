-- `bits::svq3::read_on` answers `code_from` at its place. The invariant: reading on from the marker at p gives the answer, and m has room for the data bits that may come.
use mathlib.Core.Path.{◌≡◌, refl, sym, ◌∙◌}
use Rattle.bits.proofs.CodeStep.{ends, stops, too_long, cut, turn, more, doubled, value-le}
use Rattle.bits.specs.Code.{bit_value}
use Prim.Native.Nat.{◌+◌, ◌*◌}
use native.Mathlib.Omega.{arith}
use Rattle.bits.proofs.svq3.read_on.Goals as goal

pub loop-p-init : goal.loop-p-init
loop-p-init c = (refl, c.requires.0, c.requires.1)

pub returns-then-n-p : goal.returns-then-n-p
returns-then-n-p c =
    let l = c.loop-p in
    let a = c.args in
    sym (ends a.bits.bytes.now l.p l.room l.m c.if-n-p.true) ∙ l.invariant.0

pub returns-then-bit_at : goal.returns-then-bit_at
returns-then-bit_at c =
    let l = c.loop-p in
    let a = c.args in
    sym (stops a.bits.bytes.now l.p l.room l.m (omega arith) (sym c.if-bit_at.true ∙ c.bit_at.ensures)) ∙ l.invariant.0

pub returns-then-room-eq0 : goal.returns-then-room-eq0
returns-then-room-eq0 c =
    let l = c.loop-p in
    let a = c.args in
    sym (too_long a.bits.bytes.now l.p l.room l.m (omega arith) (sym c.if-bit_at.false ∙ c.bit_at.ensures) c.if-room-eq0.true) ∙ l.invariant.0

pub returns-then-n-d : goal.returns-then-n-d
returns-then-n-d c =
    let l = c.loop-p in
    let a = c.args in
    sym (cut a.bits.bytes.now l.p l.room l.m (omega arith) (sym c.if-bit_at.false ∙ c.bit_at.ensures) (omega arith) c.if-n-d.true) ∙ l.invariant.0

pub overflow_mul-m : goal.overflow_mul-m
overflow_mul-m c =
    let l = c.loop-p in
    omega (arith, doubled l.room l.m (omega arith) l.invariant.1)

pub overflow_add-m : goal.overflow_add-m
overflow_add-m c =
    let l = c.loop-p in
    omega (arith, doubled l.room l.m (omega arith) l.invariant.1)

pub overflow_mul-m-else-bit_at-2 : goal.overflow_mul-m-else-bit_at-2
overflow_mul-m-else-bit_at-2 c =
    let l = c.loop-p in
    omega (arith, doubled l.room l.m (omega arith) l.invariant.1)

pub loop-p-preserved : goal.loop-p-preserved
loop-p-preserved c =
    let l = c.loop-p in
    let a = c.args in
    let d = c.bit_at-in-loop-p.result in
    let m' : c.if-bit_at-2.m ≡ 2 * l.m + bit_value d = elim c.if-bit_at-2.branch [ goal.then-bit_at-2 w ↦ rw w.if-bit_at-2.true w.m-is | goal.else-bit_at-2 w ↦ rw w.if-bit_at-2.false (omega arith) ] in (
      rw m' (sym (turn a.bits.bytes.now l.p l.room l.m d (omega arith) (sym c.if-bit_at.false ∙ c.bit_at.ensures) (omega arith) (omega arith) c.bit_at-in-loop-p.ensures) ∙ l.invariant.0),
      rw m' (more l.room l.m (bit_value d) (omega arith) (value-le d) l.invariant.1),
      omega arith,
    )
