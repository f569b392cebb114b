-- `compensation::window::copy_run` meets its contract: sixteen at once and the last.
use mathlib.Core.Path.{refl}
use Rattle.picture.specs.InnerRows.{run}
use Rattle.picture.proofs.Laws.{row_more}
use Rattle.compensation.proofs.window.copy_run.Goals as goal

pub returns : goal.returns
unfolding run
returns c =
    let a = c.args in
    row_more a.window.now a.at (run a.plane.now a.from) 16 c.store_row.ensures refl
