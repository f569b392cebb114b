-- A number held in i32, with whether it had to be.
use Rattle.std.specs.Prelude.{ℤ}
use Rattle.ints.specs.Z.{sat_z, over_z}
use Rattle.ints.specs.declared.Held.{Held}

-- the nearest i32, and whether z leaves i32
unfoldable pub held_z : ℤ → Held
held_z z = record { value = sat_z z; over = over_z z }
