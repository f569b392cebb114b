-- One column, four numbers, a turn.
use Rattle.std.proofs.Common.{◌≡◌, pos, get_or, arith, rules}
use mir.Syntax.{w16}
use mir.Val.{SFits}
use mir.Facts.{to_z-of_z}
use Rattle.transform.proofs.Turns.{columns-turn}
use Rattle.transform.proofs.exact.columns.Goals as goal

pub loop-c-preserved : goal.loop-c-preserved
loop-c-preserved c =
    let t = c.column-t in
    let l = c.loop-c in
    let p : SFits w16 (get_or t.result 0 (pos 0)) = search rules in
    let q : SFits w16 (get_or t.result 1 (pos 0)) = search rules in
    let r : SFits w16 (get_or t.result 2 (pos 0)) = search rules in
    let s : SFits w16 (get_or t.result 3 (pos 0)) = search rules in
    columns-turn t.result l.invariant c.loop-c-test.true t.ensures (to_z-of_z p) (to_z-of_z q) (to_z-of_z r) (to_z-of_z s)

pub returns : goal.returns
returns c =
    let e : c.loop-c.c ≡ 4 = omega arith in
    let d = to_z-of_z c.ranges.dc in
    rw (e, d) at c.loop-c.invariant
