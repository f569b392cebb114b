-- `vectors::svq3_frame::floor_of_sixth` answers `floor_z`: what it divides is no negative number.
use mathlib.Core.Path.{◌≡◌, ap, ◌∙◌}
use Prim.Native.Nat.{◌≤◌}
use native.Mathlib.Omega.{arith}
use lib.IntN.{ℤ, pos, nat_abs, ◌+ℤ◌}
use mir.Syntax.{w32}
use mir.Facts.{to_z-of_z}
use Rattle.ints.specs.Z.{floor_z}
use Rattle.ints.proofs.Fits.{read}
use Rattle.vectors.proofs.Moves.{sixth-read}
use Rattle.vectors.proofs.svq3_frame.floor_of_sixth.Goals.{Start}
use Rattle.vectors.proofs.svq3_frame.floor_of_sixth.Goals as goal

abbrev number : Start → ℤ
number c = read w32 c.args.v

same : (c : Start) → number c ≡ c.args.v
same c = to_z-of_z c.ranges.v

size : (c : Start) → nat_abs (number c) ≤ 1179648
size c = rw (same c) c.requires

pub returns : goal.returns
returns c = sixth-read _ (omega arith) (omega arith) (number c) (size c) (omega arith) ∙ ap (λ z. floor_z (z +ℤ pos 3) 6) (same c)
