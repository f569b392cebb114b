-- `vectors::svq3_mb::one_flag` answers `one_flag` at its place, by the bit there.
use mathlib.Core.Path.{sym, ◌∙◌}
use lib.ListN.{drop}
use Rattle.refusal.proofs.Answered.{handed}
use Rattle.bits.specs.Bits.{bit_list}
use Rattle.vectors.proofs.Flags.{one-ends, one_read}
use Rattle.vectors.proofs.svq3_mb.one_flag.Goals as goal

pub returns-in_err-set : goal.returns-in_err-set
returns-in_err-set c =
    let a = c.args in
    handed _ _ c.from_residual.ensures ∙ one-ends a.p a.at (drop a.at (bit_list a.bits.bytes.now)) _ (sym c.in_err-set.was ∙ c.read_bit.ensures)

pub returns-then-set : goal.returns-then-set
returns-then-set c =
    let a = c.args in
    rw c.if-set.true at (one_read a.p a.at (drop a.at (bit_list a.bits.bytes.now)) _ _ (sym c.in_ok-set.was ∙ c.read_bit.ensures))

pub returns-else-set : goal.returns-else-set
returns-else-set c =
    let a = c.args in
    rw c.if-set.false at (one_read a.p a.at (drop a.at (bit_list a.bits.bytes.now)) _ _ (sym c.in_ok-set.was ∙ c.read_bit.ensures))
