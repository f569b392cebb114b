-- `levels::svq3_cbp::luma_quadrant_coded` answers `quadrant_coded`.
use mathlib.Core.Path.{refl}
use Rattle.levels.specs.Pattern.{quadrant_coded}
use Rattle.levels.proofs.svq3_cbp.luma_quadrant_coded.Goals as goal

pub returns : goal.returns
unfolding quadrant_coded
returns c = refl
