-- `number::read_signed_number` answers `read_signed`: what `read_number` answered, received.
use Rattle.std.proofs.Common.{drop, ℤ, w32, Ok}
use mathlib.Core.Path.{sym, ap, ◌∙◌}
use mir.Facts.{to_z-of_z}
use Rattle.refusal.proofs.Answered.{answered-map, refused-map, handed}
use Rattle.number.specs.Number.{read_number}
use Rattle.number.specs.SignedNumber.{received, read_signed}
use Rattle.number.proofs.read_signed_number.Goals as goal

pub returns-in_err-n : goal.returns-in_err-n
unfolding read_signed
returns-in_err-n c =
    let a = c.args in
    handed _ _ c.from_residual.ensures ∙ refused-map received a.at (read_number (drop a.at a.s.now)) _ (sym (c.in_err-n.was) ∙ c.read_number.ensures)

pub returns : goal.returns
unfolding read_signed
returns c =
    let a = c.args in
    ap (λ (z : ℤ). Ok (z, c.in_ok-n.next)) (to_z-of_z {w = w32} (record { sfits = c.received_of.type_inv }) ∙ c.received_of.ensures)
    ∙ answered-map received a.at (read_number (drop a.at a.s.now)) _ _ (sym c.in_ok-n.was ∙ c.read_number.ensures)
