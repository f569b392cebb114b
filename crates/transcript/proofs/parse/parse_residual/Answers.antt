-- `transcript::parse::parse_residual`: each part's answer, taken on to the whole.
use mathlib.Core.Path.{sym, ◌∙◌}
use native.Mathlib.Omega.{arith}
use lib.Dec.{lit<}
use Rattle.refusal.proofs.Answered.{handed}
use Rattle.transcript.proofs.Parsings.{field-most, no-pattern, no-quantiser, no-levels, with-levels}
use Rattle.transcript.proofs.parse.parse_residual.Goals as goal

pub overflow_cast-pattern : goal.overflow_cast-pattern
overflow_cast-pattern c =
    let a = c.args in
    omega (arith, field-most a.at 47 _ _ _ (lit< tt) (sym c.in_ok-pattern.was ∙ c.read_field.ensures))

pub returns : goal.returns
returns c vs =
    let a = c.args in
    with-levels a.head a.bytes.now a.at vs _ _ _ (sym c.in_ok-pattern.was ∙ c.read_field.ensures) _ _ (sym c.in_ok-quantiser.was ∙ c.read_field-2.ensures) _ c.requires _ c.parse_items.ensures _ _ c.with_residual.ensures c.in_ok-next.was

pub returns-in_err-next : goal.returns-in_err-next
returns-in_err-next c vs =
    let a = c.args in
    rw (handed _ _ c.from_residual-in_err-next.ensures) (no-levels a.head a.bytes.now a.at vs _ _ _ (sym c.in_ok-pattern.was ∙ c.read_field.ensures) _ _ (sym c.in_ok-quantiser.was ∙ c.read_field-2.ensures) _ c.requires _ c.parse_items.ensures _ c.in_err-next.was)

pub returns-in_err-quantiser : goal.returns-in_err-quantiser
returns-in_err-quantiser c vs =
    let a = c.args in
    rw (handed _ _ c.from_residual-in_err-quantiser.ensures) (no-quantiser a.head a.bytes.now a.at vs _ _ _ (sym c.in_ok-pattern.was ∙ c.read_field.ensures) _ (sym c.in_err-quantiser.was ∙ c.read_field-2.ensures))

pub returns-in_err-pattern : goal.returns-in_err-pattern
returns-in_err-pattern c vs = let a = c.args in rw (handed _ _ c.from_residual.ensures) (no-pattern a.head a.bytes.now a.at vs _ _ (sym c.in_err-pattern.was ∙ c.read_field.ensures))
