-- `compensation::kernel::extra_of` meets its contract: a tap more each way, but for whole samples.
use mathlib.Core.Path.{sym}
use native.Mathlib.Omega.{arith}
use Rattle.compensation.proofs.Taps.{extra-none, extra-down, extra-across}
use Rattle.compensation.proofs.kernel.extra_of.Goals.{else-px-eq0-via-then-px-eq0+else-py-eq0, else-px-eq0-via-else-px-eq0}
use Rattle.compensation.proofs.kernel.extra_of.Goals as goal

pub returns-then-py-eq0 : goal.returns-then-py-eq0
returns-then-py-eq0 c = (rw (c.if-px-eq0.true, c.if-py-eq0.true) (sym extra-none), omega arith)

pub returns-else-px-eq0 : goal.returns-else-px-eq0
returns-else-px-eq0 c = (
  elim c.else-px-eq0.branch [
    | else-px-eq0-via-then-px-eq0+else-py-eq0 w ↦ rw w.if-px-eq0.true (sym (extra-down _ w.if-py-eq0.false))
    | else-px-eq0-via-else-px-eq0 w ↦ sym (extra-across _ _ w.if-px-eq0.false)
  ],
  omega arith,
)
