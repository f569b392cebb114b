-- `compensation::window::gather` meets its contract, on whichever side the taps lie.
use native.Mathlib.Omega.{arith}
use Rattle.compensation.proofs.Taps.{column-below}
use Rattle.compensation.proofs.Wide.{wide-left, wide-right, wide-between, wide-picked}
use Rattle.compensation.proofs.window.gather.Goals as goal

pub gather_each-requires : goal.gather_each-requires
gather_each-requires c =
    record { h_in_bounds = c.requires.h_in_bounds; place = (c.requires.place.1, column-below c.args.plane.size.width c.args.bx c.columns_of-columns.ensures (omega arith)) }

pub returns-then-width-lt17 : goal.returns-then-width-lt17
returns-then-width-lt17 c =
    let a = c.args in
    let g = c.gather_each in
    (omega arith, wide-picked a.plane.samples.now g.new.window a.plane.size.width a.plane.size.height a.bx a.by a.h c.columns_of-columns.ensures g.ensures)

pub returns-then-bx-lt17 : goal.returns-then-bx-lt17
returns-then-bx-lt17 c =
    let a = c.args in
    let g = c.gather_beside in
    (omega arith, wide-left a.plane.samples.now g.new.window a.plane.size.width a.plane.size.height a.bx a.by a.h c.if-bx-lt17.true (omega arith) g.ensures.wide g.ensures.wide_2)

pub returns-then-width-bx : goal.returns-then-width-bx
returns-then-width-bx c =
    let a = c.args in
    let g = c.gather_beside-then-width-bx in
    (omega arith, wide-right a.plane.samples.now g.new.window a.plane.size.width a.plane.size.height a.bx a.by a.h c.if-width-bx.true c.requires.place.0 (omega arith) g.ensures.wide g.ensures.wide_2)

pub returns : goal.returns
returns c =
    let a = c.args in
    let g = c.gather_between in
    (omega arith, wide-between a.plane.samples.now g.new.window a.plane.size.width a.plane.size.height a.bx a.by a.h (omega arith) (omega arith) g.ensures)
