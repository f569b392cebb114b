-- `apply::svq3_frame::compensate_chroma` meets its contract: k partitions are in both planes.
use mathlib.Core.Path.{◌≡◌}
use mathlib.Core.Bool.{true}
use Rattle.apply.specs.Moved.{unit, moved_up_to}
use Rattle.apply.proofs.svq3_frame.compensate_chroma.Given as goal

abbrev pub invariant-loop-k : goal.invariant-loop-k
invariant-loop-k l = (l.cb ≡ moved_up_to l.k (unit true) l.mb.grid.cols l.mb.grid.rows l.reference.cb.now l.mb.call l.vectors l.initial.cb) × (l.cr ≡ moved_up_to l.k (unit true) l.mb.grid.cols l.mb.grid.rows l.reference.cr.now l.mb.call l.vectors l.initial.cr)
