-- One row a turn.
use Rattle.std.proofs.Common.{◌≡◌, ◌∙◌, ap, ◌+◌, ◌*◌, nat_abs, length-drop, arith}
use Rattle.std.proofs.lemmas.Grind.{common_steps}
use Rattle.transform.specs.InnerPasses.{row_sums}
use Rattle.transform.proofs.Slices.{exact-slice, row-slice}
use Rattle.transform.proofs.exact.rows.Goals as goal

pub row-requires : goal.row-requires
row-requires c =
    let s = c.args.scale.by in
    let l = c.args.levels.now in
    let n = 4 * c.loop-i.i in
    let h = c.requires.small c.loop-i.i c.loop-i-test.true in (
      omega (arith, length-drop n l, c.requires.room),
      record {
        first = omega (arith, ap nat_abs (exact-slice s n 0 n l (omega arith)), h.first);
        second = omega (arith, ap nat_abs (exact-slice s n 1 (n + 1) l (omega arith)), h.second);
        third = omega (arith, ap nat_abs (exact-slice s n 2 (n + 2) l (omega arith)), h.third);
        fourth = omega (arith, ap nat_abs (exact-slice s n 3 (n + 3) l (omega arith)), h.fourth);
      },
    )

pub loop-i-preserved : goal.loop-i-preserved
loop-i-preserved c =
    let e : c.row.result ≡ row_sums c.args.scale.by c.args.levels.now (4 * c.loop-i.i) = c.row.ensures ∙ row-slice _ _ _ in
    grind (arith, common_steps)
