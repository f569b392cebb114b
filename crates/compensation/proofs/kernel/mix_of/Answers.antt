-- `compensation::kernel::mix_of` meets its contract: it answers what the code says.
use mathlib.Core.Path.{refl, ap}
use Prim.Native.Nat.{◌/◌, ◌%◌}
use native.Mathlib.Omega.{arith}
use borrow.Author.Tests.{ne_eqb}
use Rattle.ints.specs.Z.{when◌then◌else◌}
use Rattle.compensation.proofs.Mixes.{said-for, twelfths-for}
use Rattle.compensation.proofs.kernel.mix_of.Goals.{then-p-eq3, else-p-eq3}
use Rattle.compensation.proofs.kernel.mix_of.Goals as goal

pub invariant_of-result-2 : goal.invariant_of-result-2
invariant_of-result-2 c =
    record { square = elim c.if-p-eq3.branch [ then-p-eq3 w ↦ rw w.beside-is refl | else-p-eq3 w ↦ rw w.beside-is (omega arith) ] }

pub invariant_of-result-clause-twelfths : goal.invariant_of-result-clause-twelfths
invariant_of-result-clause-twelfths c = rw c.mix_code-code.ensures.is (twelfths-for c.args.p.px c.args.p.across c.args.p.py c.args.p.down)

pub returns : goal.returns
unfolding when◌then◌else◌
returns c =
    let a = c.args in
    let e = c.mix_code-code.ensures.is in
    (said-for a.stride a.p.px c.args.p.across a.p.py c.args.p.down).each _
    (record {
      rows = refl;
      beside = elim c.if-p-eq3.branch [ then-p-eq3 w ↦ rw (w.beside-is, w.if-p-eq3.true) refl | else-p-eq3 w ↦ rw (w.beside-is, ne_eqb a.p.py 3 w.if-p-eq3.false) refl ];
      second = elim c.if-p-eq3.branch [ then-p-eq3 w ↦ rw (w.beside-is, w.if-p-eq3.true) refl | else-p-eq3 w ↦ rw (w.beside-is, ne_eqb a.p.py 3 w.if-p-eq3.false) refl ];
      means = ap (λ n. n / 32768) e;
      wa = ap (λ n. n % 16) e;
      wb = ap (λ n. n / 16 % 16) e;
      wc = ap (λ n. n / 256 % 16) e;
      wd = ap (λ n. n / 4096 % 8) e;
    })
