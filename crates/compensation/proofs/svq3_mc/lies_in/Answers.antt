-- `compensation::svq3_mc::lies_in` meets its contract: nothing is lost in 64 bits.
use mathlib.Core.Path.{◌≡◌, sym, subst}
use mathlib.Core.Bool.{◌&&◌}
use native.Mathlib.Omega.{arith}
use lib.IntN.{pos, ◌-ℤ◌}
use lib.Signed.{le_z}
use mir.Syntax.{w64}
use mir.Val.{SFits, to_z}
use mir.Facts.{to_z-of_z}
use Rattle.ints.proofs.Fits.{back, cast-pos}
use Rattle.std.proofs.lemmas.Int.{ints}
use Rattle.ints.proofs.Linear.{mag-z}
use Rattle.compensation.specs.InnerTaps.{lies_in}
use Rattle.compensation.proofs.svq3_mc.lies_in.Goals.{Start}
use Rattle.compensation.proofs.svq3_mc.lies_in.Goals as goal

last : (s : Start) → let a = s.args in to_z w64 a.side -ℤ to_z w64 a.n ≡ pos a.side -ℤ pos a.n
last s =
    let a = s.args in
    λ i. cast-pos w64 65537 a.side (omega arith) tt i -ℤ cast-pos w64 65537 a.n (omega arith) tt i

pub overflow_sub-result : goal.overflow_sub-result
overflow_sub-result c =
    let a = c.args in
    subst (SFits w64) (sym (last c)) (record { sfits = omega (arith, ints, mag-z (pos a.side -ℤ pos a.n)) })

pub returns : goal.returns
unfolding lies_in
returns c =
    let f = to_z-of_z c.ranges.first in
    let l = back w64 (overflow_sub-result c).sfits (last c) in
    λ i. le_z (pos 0) (f i) && le_z (f i) (l i)
