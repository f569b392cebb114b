-- `bits::svq3_mv::signed_of` answers `signed_of`.
use mathlib.Core.Path.{sym, ◌∙◌}
use Prim.Native.Nat.{◌+◌, ◌/◌}
use native.Mathlib.Omega.{arith}
use mir.Syntax.{w32}
use mir.Facts.{to_z_pos}
use Rattle.bits.proofs.SignedCode.{when-odd, when-even, neg_is}
use Rattle.bits.proofs.svq3_mv.signed_of.Goals as goal

-- src/svq3_mv.rt:18:1
pub returns-then-k-eq1 : goal.returns-then-k-eq1
returns-then-k-eq1 c = to_z_pos w32 (omega arith) ∙ sym (when-odd c.args.k c.if-k-eq1.true)

-- src/svq3_mv.rt:18:1
pub returns-else-k-eq1 : goal.returns-else-k-eq1
returns-else-k-eq1 c = neg_is ((c.args.k + 1) / 2) (omega arith) ∙ sym (when-even c.args.k c.if-k-eq1.false)
