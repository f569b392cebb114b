-- The three calls are the definition's own three steps.
use native.Mathlib.Omega.{arith}
use mathlib.Core.Path.{◌≡◌, sym}
use mathlib.Core.Bool.{false}
use lib.Signed.{lt_z}
use mir.Syntax.{w32}
use Rattle.std.proofs.lemmas.Int.{ints, clamps}
use Rattle.ints.specs.Z.{min_z, max_z, median_z}
use Rattle.ints.proofs.Fits.{read}
use Rattle.ints.proofs.Linear.{min-z, max-z, clamp-z}
use Rattle.ints.proofs.median3.Goals as goal

pub returns : goal.returns
unfolding median_z
returns c =
    let a = c.args.a in
    let b = c.args.b in
    let v = c.args.c in
    let low = read w32 c.min.result in
    let high = read w32 c.max.result in
    let given : lt_z high low ≡ false = sym (omega (arith, ints, clamps)) in
    let least : lt_z (max_z a b) (min_z a b) ≡ false = sym (omega (arith, ints, min-z a b, max-z a b)) in
    omega (arith, ints, clamps, min-z a b, max-z a b, min-z high (read w32 v), clamp-z low high (read w32 v) given, min-z (max_z a b) v, clamp-z (min_z a b) (max_z a b) v least)
