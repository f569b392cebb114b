-- `compensation::svq3_mc::split_mv_component` meets its contract: what the machine divides is the vector, raised by 6 · 357,913,942.
use mathlib.Core.Path.{sym, subst}
use native.Mathlib.Omega.{arith}
use lib.Dec.{lit≤}
use mir.Syntax.{w64}
use mir.Val.{SFits}
use Rattle.ints.proofs.Fits.{signed, back}
use Rattle.ints.proofs.Same.{reads}
use Rattle.ints.proofs.Laws.{floor-fits}
use Rattle.compensation.proofs.Split.{raised-whole, raised-phase}
use Rattle.compensation.proofs.svq3_mc.split_mv_component.Goals.{Start}
use Rattle.compensation.proofs.svq3_mc.split_mv_component.Goals as goal

pub overflow_add-u : goal.overflow_add-u
overflow_add-u c = search signed depth 20

pub overflow_sub-result : goal.overflow_sub-result
overflow_sub-result c =
    let record { v = v } = c.ranges in
    subst (SFits w64) (sym (raised-whole 357913942 (lit≤ tt) v (overflow_add-u c) (search reads depth 20))) (record { sfits = omega (arith, floor-fits 6 v) })

pub returns : goal.returns
returns c =
    let record { v = v } = c.ranges in (
      back w64 (overflow_sub-result (goal.at.returns c).Start).sfits (raised-whole 357913942 (lit≤ tt) v (overflow_add-u (goal.at.returns c).Start) (search reads depth 20)),
      raised-phase 357913942 (lit≤ tt) v (overflow_add-u (goal.at.returns c).Start) (search reads depth 20),
    )
