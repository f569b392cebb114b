-- `reading::svq3_frame::read_vectors`: what is still to be read, joined to what was read, is the whole.
use Rattle.bits.specs.Bits.{bit_list}
use Rattle.picture.specs.InnerField.{lent_field}
use Rattle.reading.specs.Read.{Moving, at_first}
use Rattle.reading.specs.InnerAnswers.{Holds}
use Rattle.reading.proofs.Steps.{Going}
use Rattle.reading.proofs.svq3_frame.read_vectors.Given as goal

abbrev pub invariant-loop-i : goal.invariant-loop-i
invariant-loop-i l =
    (m : Moving) × Going l.motion l.n (at_first (lent_field l.cells.grid.cols l.cells.grid.rows l.cells.mv.now l.cells.marks.now)) (bit_list l.bits.bytes.now) l.at l.i l.p m × Holds m l.motion l.clipped l.vectors l.near
