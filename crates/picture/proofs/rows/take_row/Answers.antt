-- `picture::rows::take_row` meets its contract: the invariant has the samples taken so far.
use mathlib.Core.Path.{◌≡◌, refl}
use native.Mathlib.Nat.{zero-add}
use native.Mathlib.Numerals.{add-one}
use native.Mathlib.Omega.{arith}
use Rattle.picture.specs.InnerRows.{row, run}
use Rattle.picture.proofs.rows.take_row.Goals as goal

pub loop-c-init : goal.loop-c-init
unfolding row
loop-c-init c = refl

pub loop-c-preserved : goal.loop-c-preserved
unfolding row run
loop-c-preserved c = rw (add-one, c.loop-c.invariant, zero-add)

pub returns : goal.returns
returns c =
    let e : c.loop-c.c ≡ c.args.n = omega arith in
    rw (← e) c.loop-c.invariant
