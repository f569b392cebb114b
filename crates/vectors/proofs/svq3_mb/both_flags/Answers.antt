-- `vectors::svq3_mb::both_flags` answers `both_flags` at its place, by the bit or the two bits there.
use mathlib.Core.Path.{◌≡◌, sym, ◌∙◌}
use mathlib.Core.Bool.{true}
use lib.ListN.{drop}
use Rattle.std.specs.Prelude.{Ok}
use Rattle.refusal.specs.Answered.{answered}
use Rattle.refusal.proofs.Answered.{handed}
use Rattle.bits.specs.Bits.{bit_list}
use Rattle.vectors.specs.InnerPrecision.{first_bit}
use Rattle.vectors.proofs.Flags.{both_end, third, cut_off, second-bit}
use Rattle.vectors.proofs.svq3_mb.both_flags.Goals.{Else-not-coarse}
use Rattle.vectors.proofs.svq3_mb.both_flags.Goals as goal

-- the first bit is set
set : (c : Else-not-coarse) → let a = c.args in Ok (true, c.in_ok-coarse.second) ≡ answered a.at (first_bit (drop a.at (bit_list a.bits.bytes.now)))
set c = rw c.if-not-coarse.false at (sym c.in_ok-coarse.was ∙ c.read_bit.ensures)

pub returns-in_err-coarse : goal.returns-in_err-coarse
returns-in_err-coarse c = let a = c.args in handed _ _ c.from_residual.ensures ∙ both_end (bit_list a.bits.bytes.now) a.at _ (sym c.in_err-coarse.was ∙ c.read_bit.ensures)

pub returns-then-not-coarse : goal.returns-then-not-coarse
returns-then-not-coarse c = let a = c.args in third (bit_list a.bits.bytes.now) a.at _ (rw c.if-not-coarse.true at (sym c.in_ok-coarse.was ∙ c.read_bit.ensures))

pub returns-in_err-full : goal.returns-in_err-full
returns-in_err-full c =
    let a = c.args in
    handed _ _ c.from_residual-in_err-full.ensures ∙ cut_off (bit_list a.bits.bytes.now) a.at _ (set (goal.at.returns-in_err-full c).Else-not-coarse) _ (sym c.in_err-full.was ∙ c.read_bit-2.ensures)

pub returns-then-full : goal.returns-then-full
returns-then-full c =
    let a = c.args in
    rw c.if-full.true at (second-bit (bit_list a.bits.bytes.now) a.at _ (set (goal.at.returns-then-full c).Else-not-coarse) _ _ (sym c.in_ok-full.was ∙ c.read_bit-2.ensures))

pub returns-else-full : goal.returns-else-full
returns-else-full c =
    let a = c.args in
    rw c.if-full.false at (second-bit (bit_list a.bits.bytes.now) a.at _ (set (goal.at.returns-else-full c).Else-not-coarse) _ _ (sym c.in_ok-full.was ∙ c.read_bit-2.ensures))
