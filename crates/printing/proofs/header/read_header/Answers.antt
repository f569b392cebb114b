-- `printing::header::read_header`: a number at a time.
use mathlib.Core.Path.{sym, ◌∙◌}
use Rattle.refusal.proofs.Answered.{handed}
use Rattle.printing.proofs.Headers.{no-cols, no_rows, no-flags, no-delta, no-quantiser, no-count, whole}
use Rattle.printing.proofs.header.read_header.Goals as goal

pub returns-in_err-cols : goal.returns-in_err-cols
returns-in_err-cols c = handed _ _ c.from_residual.ensures ∙ no-cols c.args.input.now (sym c.in_err-cols.was ∙ c.read_ranged.ensures)

pub returns-in_err-rows : goal.returns-in_err-rows
returns-in_err-rows c = handed _ _ c.from_residual-in_err-rows.ensures ∙ no_rows c.args.input.now (sym c.in_ok-cols.was ∙ c.read_ranged.ensures) (sym c.in_err-rows.was ∙ c.read_ranged-2.ensures)

pub returns-in_err-flags : goal.returns-in_err-flags
returns-in_err-flags c = handed _ _ c.from_residual-in_err-flags.ensures ∙ no-flags c.args.input.now (sym c.in_ok-cols.was ∙ c.read_ranged.ensures) (sym c.in_ok-rows.was ∙ c.read_ranged-2.ensures) (sym c.in_err-flags.was ∙ c.read_ranged-3.ensures)

pub returns-in_err-delta : goal.returns-in_err-delta
returns-in_err-delta c = handed _ _ c.from_residual-in_err-delta.ensures ∙ no-delta c.args.input.now (sym c.in_ok-cols.was ∙ c.read_ranged.ensures) (sym c.in_ok-rows.was ∙ c.read_ranged-2.ensures) (sym c.in_ok-flags.was ∙ c.read_ranged-3.ensures) (sym c.in_err-delta.was ∙ c.read_ranged-4.ensures)

pub returns-in_err-quantiser : goal.returns-in_err-quantiser
returns-in_err-quantiser c = handed _ _ c.from_residual-in_err-quantiser.ensures ∙ no-quantiser c.args.input.now (sym c.in_ok-cols.was ∙ c.read_ranged.ensures) (sym c.in_ok-rows.was ∙ c.read_ranged-2.ensures) (sym c.in_ok-flags.was ∙ c.read_ranged-3.ensures) (sym c.in_ok-delta.was ∙ c.read_ranged-4.ensures) (sym c.in_err-quantiser.was ∙ c.read_ranged-5.ensures)

pub returns-in_err-count : goal.returns-in_err-count
returns-in_err-count c = handed _ _ c.from_residual-in_err-count.ensures ∙ no-count c.args.input.now (sym c.in_ok-cols.was ∙ c.read_ranged.ensures) (sym c.in_ok-rows.was ∙ c.read_ranged-2.ensures) (sym c.in_ok-flags.was ∙ c.read_ranged-3.ensures) (sym c.in_ok-delta.was ∙ c.read_ranged-4.ensures) (sym c.in_ok-quantiser.was ∙ c.read_ranged-5.ensures) (sym c.in_err-count.was ∙ c.read_ranged-6.ensures)

pub returns : goal.returns
returns c = whole c.args.input.now (sym c.in_ok-cols.was ∙ c.read_ranged.ensures) (sym c.in_ok-rows.was ∙ c.read_ranged-2.ensures) (sym c.in_ok-flags.was ∙ c.read_ranged-3.ensures) (sym c.in_ok-delta.was ∙ c.read_ranged-4.ensures) (sym c.in_ok-quantiser.was ∙ c.read_ranged-5.ensures) (sym c.in_ok-count.was ∙ c.read_ranged-6.ensures)
