-- `reading::svq3_frame::read_residual`: each part's answer, taken on to the whole.
use mathlib.Core.Path.{sym, ◌∙◌}
use Rattle.refusal.proofs.Answered.{handed}
use Rattle.bits.specs.Bits.{bit_list}
use Rattle.levels.proofs.Left.{items_left}
use Rattle.reading.proofs.Readings.{no-pattern, no-quantiser, no-levels, with-levels}
use Rattle.reading.proofs.svq3_frame.read_residual.Goals as goal

pub returns : goal.returns
returns c m e =
    let a = c.args in
    with-levels a.delta a.quantiser a.motion.mb.call a.motion.precision m (bit_list a.bits.bytes.now) a.at _ _ _ (sym c.in_ok-pattern.was ∙ c.read_cbp_inter.ensures) _ _ (sym c.in_ok-q.was ∙ c.read_quantiser.ensures)
    _ c.requires.0 _ (items_left 26 0 _ _ _ _ _ _ c.read_items.ensures) _ _ _ c.in_ok-next.was c.precision_number.ensures e

pub returns-in_err-next : goal.returns-in_err-next
returns-in_err-next c m e =
    let a = c.args in
    rw (handed _ _ c.from_residual-in_err-next.ensures) (no-levels a.delta a.quantiser a.motion.mb.call a.motion.precision m (bit_list a.bits.bytes.now) a.at _ _ _ (sym c.in_ok-pattern.was ∙ c.read_cbp_inter.ensures) _ _ (sym c.in_ok-q.was ∙ c.read_quantiser.ensures)
    _ c.requires.0 _ (items_left 26 0 _ _ _ _ _ _ c.read_items.ensures) _ c.in_err-next.was)

pub returns-in_err-q : goal.returns-in_err-q
returns-in_err-q c m e =
    let a = c.args in
    rw (handed _ _ c.from_residual-in_err-q.ensures) (no-quantiser a.delta a.quantiser a.motion.mb.call a.motion.precision m (bit_list a.bits.bytes.now) a.at _ _ _ (sym c.in_ok-pattern.was ∙ c.read_cbp_inter.ensures) _ (sym c.in_err-q.was ∙ c.read_quantiser.ensures))

pub returns-in_err-pattern : goal.returns-in_err-pattern
returns-in_err-pattern c m e = let a = c.args in rw (handed _ _ c.from_residual.ensures) (no-pattern a.delta a.quantiser a.motion.mb.call a.motion.precision m (bit_list a.bits.bytes.now) a.at _ _ (sym c.in_err-pattern.was ∙ c.read_cbp_inter.ensures))

pub read_items-requires : goal.read_items-requires
read_items-requires c = tt
