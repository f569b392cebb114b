-- `vectors::svq3_frame::held_in` answers `held_in`: what is held lies in the picture.
use Prim.Native.Nat.{◌-◌, ◌*◌}
use native.Mathlib.Omega.{arith}
use lib.IntN.{pos, ◌+ℤ◌}
use Rattle.std.proofs.lemmas.Int.{ints, clamps}
use Rattle.ints.proofs.Words.{clamp-word}
use Rattle.vectors.specs.Predict.{held_in}
use Rattle.vectors.proofs.svq3_frame.held_in.Goals as goal

pub returns : goal.returns
unfolding held_in
returns c =
    let a = c.args in
    let h = clamp-word (pos 0) (pos (6 * (a.side - a.span))) (pos (6 * a.place) +ℤ a.p.0) (omega (arith, ints)) in
    omega (arith, ints, clamps, h)
