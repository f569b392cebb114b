-- The sum of two i32 fits 64 bits, and `hold` holds it.
use Rattle.ints.specs.InnerHeld.{held_z}
use Rattle.ints.proofs.Fits.{signed, via}
use Rattle.ints.proofs.Same.{reads}
use Rattle.ints.proofs.sat_add.Goals as goal

pub returns : goal.returns
returns c = via held_z c.hold.ensures (search reads depth 20)

pub overflow_cast-a : goal.overflow_cast-a
overflow_cast-a c = search signed depth 20

pub overflow_cast-b : goal.overflow_cast-b
overflow_cast-b c = search signed depth 20

pub overflow_add-a : goal.overflow_add-a
overflow_add-a c = search signed depth 20
