-- `bits::svq3_mv::read_signed_code` answers `signed_code` at its place: the universal code's answer, with the code's signed value.
use Rattle.std.proofs.Common.{drop, ℤ, w32, Ok}
use mathlib.Core.Path.{sym, ap, ◌∙◌}
use mir.Facts.{to_z-of_z}
use Rattle.refusal.proofs.Answered.{answered-map, refused-map, handed}
use Rattle.bits.specs.Bits.{bit_list}
use Rattle.bits.specs.Code.{code}
use Rattle.bits.specs.Signed.{signed_of, signed_code}
use Rattle.bits.proofs.Unique.{code-range}
use Rattle.bits.proofs.svq3_mv.read_signed_code.Goals as goal

pub signed_of-requires : goal.signed_of-requires
signed_of-requires c = code-range c.args.at _ _ _ (sym c.in_ok-k.was ∙ c.read_universal_code.ensures)

pub returns-in_err-k : goal.returns-in_err-k
unfolding signed_code
returns-in_err-k c =
    let a = c.args in
    handed _ _ c.from_residual.ensures ∙ refused-map signed_of a.at (code (drop a.at (bit_list a.bits.bytes.now))) _ (sym c.in_err-k.was ∙ c.read_universal_code.ensures)

pub returns : goal.returns
unfolding signed_code
returns c =
    let a = c.args in
    ap (λ (z : ℤ). Ok (z, c.in_ok-k.next)) (to_z-of_z {w = w32} (record { sfits = c.signed_of.type_inv }) ∙ c.signed_of.ensures)
    ∙ answered-map signed_of a.at (code (drop a.at (bit_list a.bits.bytes.now))) _ _ (sym c.in_ok-k.was ∙ c.read_universal_code.ensures)
