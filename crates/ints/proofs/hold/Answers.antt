-- The value is the call's, and the two tests tell whether the number fits.
use native.Mathlib.Omega.{arith}
use mir.Syntax.{w32}
use mir.Facts.{to_z-of_z}
use Rattle.std.proofs.lemmas.Int.{ints}
use Rattle.ints.specs.Z.{sat_z}
use Rattle.ints.proofs.Fits.{back, via}
use Rattle.ints.proofs.Laws.{held-is}
use Rattle.ints.proofs.hold.Goals as goal

pub returns : goal.returns
returns c =
    held-is
    (back w32 c.sat_i32.type_inv (via sat_z c.sat_i32.ensures (to_z-of_z c.ranges.v)))
    (λ e. record { sfits = grind (arith, ints) })
    (λ h. grind (arith, ints))
