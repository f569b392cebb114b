-- `apply::svq3_frame::vector_over` meets its contract.
use mir.Facts.{to_z-of_z}
use Rattle.apply.proofs.Partitions.{toward-one}
use Rattle.apply.proofs.svq3_frame.vector_over.Goals as goal

pub returns-else-chroma : goal.returns-else-chroma
returns-else-chroma c = rw (c.if-chroma.false, toward-one c.args.component) (to_z-of_z c.ranges.component)
