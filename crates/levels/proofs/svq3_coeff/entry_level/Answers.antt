-- `levels::svq3_coeff::entry_level` answers `entry_level`.
use Prim.Native.Nat.{◌/◌}
use native.Mathlib.Omega.{arith}
use Rattle.levels.specs.InnerShort.{entry_level}
use Rattle.levels.proofs.Shorts.{level-less}
use Rattle.levels.proofs.svq3_coeff.entry_level.Goals as goal

pub returns : goal.returns
unfolding entry_level
returns c = level-less (c.args.entry / 65536) (omega arith)
