-- `bits::pair::read_apart` answers what the two readers answer.
use mathlib.Core.Path.{sym, ◌∙◌}
use mir.Syntax.{w32}
use mir.Facts.{to_z-of_z}
use Rattle.std.proofs.Common.{rules}
use Rattle.std.specs.Prelude.{Ok}
use Rattle.refusal.proofs.Answered.{handed}
use Rattle.bits.specs.Bits.{bit_list}
use Rattle.bits.proofs.Pairs.{pair_is, pair-first, pair-second}
use Rattle.bits.proofs.pair.read_apart.Goals as goal

pub returns-in_err-y : goal.returns-in_err-y
returns-in_err-y c = let a = c.args in handed _ _ c.from_residual.ensures ∙ pair-first (bit_list a.bits.bytes.now) a.at _ (sym c.in_err-y.was ∙ c.read_signed_code.ensures)

pub returns-in_err-x : goal.returns-in_err-x
returns-in_err-x c =
    let a = c.args in
    handed _ _ c.from_residual-in_err-x.ensures ∙ pair-second (bit_list a.bits.bytes.now) a.at _ _ _ (sym c.in_ok-y.was ∙ c.read_signed_code.ensures) (sym c.in_err-x.was ∙ c.read_signed_code-2.ensures)

pub returns : goal.returns
returns c =
    let a = c.args in
    let ry = to_z-of_z {w = w32} {z = c.in_ok-y.y} (search rules) in
    let rx = to_z-of_z {w = w32} {z = c.in_ok-x.x} (search rules) in
    (λ i. Ok ((ry i, rx i), c.in_ok-x.next)) ∙ pair_is (bit_list a.bits.bytes.now) a.at _ _ _ _ (sym c.in_ok-y.was ∙ c.read_signed_code.ensures) (sym c.in_ok-x.was ∙ c.read_signed_code-2.ensures)
