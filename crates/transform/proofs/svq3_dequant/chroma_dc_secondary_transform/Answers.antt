-- Each sum fits 64 bits, and is halved.
use Rattle.std.proofs.Common.{[], ◌∷◌, ◌+ℤ◌, ◌-ℤ◌}
use mir.Syntax.{w32}
use Rattle.ints.proofs.Fits.{signed, back, via}
use Rattle.ints.proofs.Same.{reads}
use Rattle.transform.specs.ChromaDc.{sat_half, secondary}
use Rattle.transform.proofs.svq3_dequant.chroma_dc_secondary_transform.Goals as goal

pub overflow_add-a-3 : goal.overflow_add-a-3
overflow_add-a-3 c = search signed depth 20

pub overflow_sub-a-2 : goal.overflow_sub-a-2
overflow_sub-a-2 c = search signed depth 20

pub overflow_sub-a-4 : goal.overflow_sub-a-4
overflow_sub-a-4 c = search signed depth 20

pub overflow_add-a-6 : goal.overflow_add-a-6
overflow_add-a-6 c = search signed depth 20

pub returns : goal.returns
unfolding secondary
returns c =
    let z = c.args in
    let record { a = a; b = b; c = c'; d = d } = c.ranges in
    λ i.
    back w32 c.halve.type_inv (via sat_half {y = z.a +ℤ z.b +ℤ z.c +ℤ z.d} c.halve.ensures (search reads fits 20000 depth 30)) i
    ∷ back w32 c.halve-2.type_inv (via sat_half {y = z.a -ℤ z.b +ℤ z.c -ℤ z.d} c.halve-2.ensures (search reads fits 20000 depth 30)) i
    ∷ back w32 c.halve-3.type_inv (via sat_half {y = z.a +ℤ z.b -ℤ z.c -ℤ z.d} c.halve-3.ensures (search reads fits 20000 depth 30)) i
    ∷ back w32 c.halve-4.type_inv (via sat_half {y = z.a -ℤ z.b -ℤ z.c +ℤ z.d} c.halve-4.ensures (search reads fits 20000 depth 30)) i
    ∷ []
