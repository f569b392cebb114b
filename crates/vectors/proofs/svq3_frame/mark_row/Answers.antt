-- `vectors::svq3_frame::mark_row` marks a row of cells.
use native.Mathlib.Omega.{arith}
use Rattle.picture.specs.Picture.{always}
use Rattle.vectors.proofs.Storing.{filled-row}
use Rattle.vectors.proofs.svq3_frame.mark_row.Goals as goal

pub returns : goal.returns
unfolding always
returns c = filled-row 0 c.args.marks.now c.args.at c.args.n 1 (omega arith) (c.fill.ensures.after (λ y e. e)) c.requires
