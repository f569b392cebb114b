-- `transcript::parse::read_signed_numbers`: the numbers that are stored, joined to those still to be read, are all of them.
use mathlib.Core.Path.{◌≡◌, sym, ◌∙◌}
use borrow.Author.Rules.{rules}
use mir.Syntax.{w32}
use mir.Val.{to_z, of_z}
use Rattle.refusal.proofs.Answered.{handed}
use Rattle.transcript.proofs.Reading.{takes, take-stops, take_ends, all-filled}
use Rattle.transcript.proofs.parse.read_signed_numbers.Goals as goal

pub loop-number-preserved : goal.loop-number-preserved
loop-number-preserved c =
    let z : to_z w32 (of_z w32 c.in_ok-v.v) ≡ c.in_ok-v.v = search rules in
    takes c.loop-number.invariant _ _ _ z c.loop-number-test.true (sym c.in_ok-v.was ∙ c.read_signed_number.ensures)

pub returns-in_err-v : goal.returns-in_err-v
returns-in_err-v c =
    let stops = take-stops c.loop-number.invariant _ _ c.loop-number-test.true (sym c.in_err-v.was ∙ c.read_signed_number.ensures) in
    rw (handed _ _ c.from_residual.ensures) (all-filled _ _ _ c.args.out.now _ stops)

pub returns : goal.returns
returns c = all-filled _ _ _ c.args.out.now _ (take_ends c.loop-number.invariant c.loop-number-test.false)
