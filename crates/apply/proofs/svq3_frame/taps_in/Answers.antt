-- `apply::svq3_frame::taps_in` meets its contract: place, spans and vector are those of the plane.
use mathlib.Core.Path.{refl, ◌∙◌, ap}
use Prim.Native.Nat.{◌+◌, ◌*◌}
use native.Mathlib.Nat.{le_trans}
use native.Mathlib.Omega.{arith}
use lib.Dec.{lit≤}
use lib.IntN.{ℤ, pos}
use lib.ListN.{get_or}
use mir.Syntax.{w32}
use mir.Val.{SFits}
use mir.Facts.{to_z-of_z}
use Rattle.ints.proofs.Fits.{fits, back}
use Rattle.ints.specs.Z.{toward_zero}
use Rattle.apply.specs.Moved.{unit}
use Rattle.apply.proofs.Partitions.{placed-as}
use Rattle.apply.proofs.svq3_frame.taps_in.Goals.{Start}
use Rattle.apply.proofs.svq3_frame.taps_in.Goals as goal

-- a place fits i32
small-x : (s : Start) → SFits w32 (pos s.args.b.x)
small-x s = fits (record { within = le_trans s.requires.span.1 (lit≤ tt) })

small-y : (s : Start) → SFits w32 (pos s.args.b.y)
small-y s = fits (record { within = le_trans s.requires.span.2 (lit≤ tt) })

pub returns : goal.returns
returns c =
    let a = c.args in
    let vx = back w32 c.vector_over-vx.type_inv (c.vector_over-vx.ensures ∙ ap (λ (z : ℤ). toward_zero z (unit a.chroma)) (back w32 {z = get_or a.vectors.now (2 * a.i) (pos 0)} c.vector_over-arg-1.given refl)) in
    let vy = back w32 c.vector_over-vy.type_inv (c.vector_over-vy.ensures ∙ ap (λ (z : ℤ). toward_zero z (unit a.chroma)) (back w32 {z = get_or a.vectors.now (2 * a.i + 1) (pos 0)} c.vector_over-arg-2-1.given refl)) in
    record { placed = placed-as c.taps_of.ensures.placed (to_z-of_z (small-x (goal.at.returns c).Start)) (to_z-of_z (small-y (goal.at.returns c).Start)) vx vy; taps_in = c.taps_of.ensures.taps_in }

pub overflow_mul-i : goal.overflow_mul-i
overflow_mul-i c = omega (arith, c.requires.width_nonzero.4)

pub offset_bounds-vectors-i : goal.offset_bounds-vectors-i
offset_bounds-vectors-i c = omega (arith, c.requires.width_nonzero.4)

pub bounds-vectors-i : goal.bounds-vectors-i
bounds-vectors-i c = omega (arith, c.requires.width_nonzero.4)

pub vector_over-vx-requires : goal.vector_over-vx-requires
vector_over-vx-requires c = tt

pub overflow_mul-i-2 : goal.overflow_mul-i-2
overflow_mul-i-2 c = omega (arith, c.requires.width_nonzero.4)

pub overflow_add-i : goal.overflow_add-i
overflow_add-i c = omega (arith, c.requires.width_nonzero.4)

pub offset_bounds-vectors-i-2 : goal.offset_bounds-vectors-i-2
offset_bounds-vectors-i-2 c = omega (arith, c.requires.width_nonzero.4)

pub bounds-vectors-i-2 : goal.bounds-vectors-i-2
bounds-vectors-i-2 c = omega (arith, c.requires.width_nonzero.4)

pub vector_over-vy-requires : goal.vector_over-vy-requires
vector_over-vy-requires c = tt

pub overflow_cast-b : goal.overflow_cast-b
overflow_cast-b c = small-x (goal.at.overflow_cast-b c).Start

pub overflow_cast-b-2 : goal.overflow_cast-b-2
overflow_cast-b-2 c = small-y (goal.at.overflow_cast-b-2 c).Start

pub taps_of-requires : goal.taps_of-requires
taps_of-requires c = (c.requires.span.0, c.requires.width_nonzero.0, c.requires.width_nonzero.1, c.requires.width_nonzero.2, c.requires.width_nonzero.3)
