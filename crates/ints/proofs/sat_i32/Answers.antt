-- A clamp to the limits of i32 is `sat_z`, and what it leaves fits.
use Rattle.ints.specs.Z.{sat_z}
use Rattle.ints.proofs.Fits.{signed}
use Rattle.ints.proofs.Same.{reads}
use Rattle.ints.proofs.sat_i32.Goals as goal

pub overflow_cast-result : goal.overflow_cast-result
overflow_cast-result c = search signed depth 20

pub returns : goal.returns
unfolding sat_z
returns c = let h = overflow_cast-result c in search reads fits 20000 depth 20
