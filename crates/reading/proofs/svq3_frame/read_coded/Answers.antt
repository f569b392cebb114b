-- `reading::svq3_frame::read_coded`: each part's answer, taken on to the whole.
use mathlib.Core.Path.{sym, ◌∙◌}
use Rattle.refusal.proofs.Answered.{handed}
use Rattle.bits.specs.Bits.{bit_list}
use Rattle.state.specs.State.{Context}
use Rattle.reading.specs.InnerAnswers.{lent_context}
use Rattle.reading.proofs.Readings.{no-precision, no-vectors, with-vectors}
use Rattle.reading.proofs.svq3_frame.read_coded.Goals.{Start}
use Rattle.reading.proofs.svq3_frame.read_coded.Goals as goal

abbrev context : Start → Context
context s = let a = s.args in lent_context a.cells.grid.cols a.cells.grid.rows a.cells.mv.now a.cells.marks.now a.flags a.cursor.quantiser

pub returns : goal.returns
returns c =
    let a = c.args in
    with-vectors (context (goal.at.returns c).Start) a.mb.call (bit_list a.bits.bytes.now) a.cursor.place _ _ _ _ (sym c.in_ok-precision.was ∙ c.read_inter_mv_precision_p_frame.ensures) _ c.read_vectors.ensures _ _ _ c.in_ok-clipped.was c.read_residual.ensures

pub returns-in_err-clipped : goal.returns-in_err-clipped
returns-in_err-clipped c =
    let a = c.args in
    rw (handed _ _ c.from_residual-in_err-clipped.ensures) (no-vectors (context (goal.at.returns-in_err-clipped c).Start) a.mb.call (bit_list a.bits.bytes.now) a.cursor.place _ _ _ _ (sym c.in_ok-precision.was ∙ c.read_inter_mv_precision_p_frame.ensures) _ c.read_vectors.ensures _ c.in_err-clipped.was)

pub returns-in_err-precision : goal.returns-in_err-precision
returns-in_err-precision c = let a = c.args in rw (handed _ _ c.from_residual.ensures) (no-precision (context (goal.at.returns-in_err-precision c).Start) a.mb.call (bit_list a.bits.bytes.now) a.cursor.place _ _ _ (sym c.in_err-precision.was ∙ c.read_inter_mv_precision_p_frame.ensures))
