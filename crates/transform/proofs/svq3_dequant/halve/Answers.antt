-- Half of a 64-bit number fits, and `sat_i32` holds it.
use mir.Syntax.{w32}
use Rattle.ints.specs.Z.{sat_z}
use Rattle.ints.proofs.Fits.{back, via}
use Rattle.ints.proofs.Same.{reads}
use Rattle.transform.specs.ChromaDc.{sat_half}
use Rattle.transform.proofs.svq3_dequant.halve.Goals as goal

pub returns : goal.returns
unfolding sat_half
returns c =
    let v = c.ranges.v in
    back w32 c.sat_i32.type_inv (via sat_z c.sat_i32.ensures (search reads depth 20))
