-- The state that a reference and the slices of a picture make: contracts of inner functions.
-- Assumes nothing.
use Rattle.std.specs.Prelude.{ℕ}
use Rattle.picture.specs.InnerLent.{Slices}
use Rattle.picture.specs.declared.Reference.{Reference}
use Rattle.state.specs.State.{State}
use Rattle.state.specs.declared.Frame.{Frame}
use Rattle.macroblock.specs.Entry.{state_of}
use Rattle.macroblock.specs.declared.Source.{Source}

abbrev pub state_by : Frame → ℕ → Reference → Slices → State
state_by frame quantiser reference pic = state_of frame quantiser reference.y.now reference.cb.now reference.cr.now pic.y pic.cb pic.cr pic.mv pic.marks

abbrev pub state_of_source : Source → ℕ → Slices → State
state_of_source source quantiser pic = state_by source.frame quantiser source.reference pic
