-- Four numbers by the coefficients of a row of the matrix: each step fits 64 bits, and `sat_i32` holds the sum.
use Rattle.std.proofs.Common.{◌∙◌, ◌+◌, ◌*◌, pos, get_or, rules}
use mir.Syntax.{w32}
use mir.Val.{SFits}
use Rattle.ints.specs.Z.{sat_z}
use Rattle.ints.proofs.Fits.{signed, back, via}
use Rattle.ints.proofs.Same.{reads}
use Rattle.transform.specs.InnerArrays.{weighed_row}
use Rattle.transform.proofs.Laws.{coefficient-fits, weighed-sum}
use Rattle.transform.proofs.svq3_dequant.weigh_row.Goals as goal

pub overflow_add-p : goal.overflow_add-p
overflow_add-p c =
    let k = c.args.k in
    let x = c.args.x.now in
    let n = 4 * c.args.i in
    let f0 : SFits w32 (get_or x n (pos 0)) = search rules in
    let f1 : SFits w32 (get_or x (n + 1) (pos 0)) = search rules in
    let p = coefficient-fits k 0 in
    let q = coefficient-fits k 1 in
    search signed depth 20

pub overflow_add-p-2 : goal.overflow_add-p-2
overflow_add-p-2 c =
    let k = c.args.k in
    let x = c.args.x.now in
    let n = 4 * c.args.i in
    let f0 : SFits w32 (get_or x n (pos 0)) = search rules in
    let f1 : SFits w32 (get_or x (n + 1) (pos 0)) = search rules in
    let f2 : SFits w32 (get_or x (n + 2) (pos 0)) = search rules in
    let p = coefficient-fits k 0 in
    let q = coefficient-fits k 1 in
    let r = coefficient-fits k 2 in
    search signed depth 20

pub overflow_add-p-3 : goal.overflow_add-p-3
overflow_add-p-3 c =
    let k = c.args.k in
    let x = c.args.x.now in
    let n = 4 * c.args.i in
    let f0 : SFits w32 (get_or x n (pos 0)) = search rules in
    let f1 : SFits w32 (get_or x (n + 1) (pos 0)) = search rules in
    let f2 : SFits w32 (get_or x (n + 2) (pos 0)) = search rules in
    let f3 : SFits w32 (get_or x (n + 3) (pos 0)) = search rules in
    let p = coefficient-fits k 0 in
    let q = coefficient-fits k 1 in
    let r = coefficient-fits k 2 in
    let s = coefficient-fits k 3 in
    search signed depth 20

pub returns : goal.returns
unfolding weighed_row
returns c =
    let k = c.args.k in
    let x = c.args.x.now in
    let n = 4 * c.args.i in
    let f0 : SFits w32 (get_or x n (pos 0)) = search rules in
    let f1 : SFits w32 (get_or x (n + 1) (pos 0)) = search rules in
    let f2 : SFits w32 (get_or x (n + 2) (pos 0)) = search rules in
    let f3 : SFits w32 (get_or x (n + 3) (pos 0)) = search rules in
    back w32 c.sat_i32.type_inv (via sat_z c.sat_i32.ensures (search (reads, coefficient-fits) fits 20000 depth 30) ∙ weighed-sum k c.requires.0 (get_or x n (pos 0)) (get_or x (n + 1) (pos 0)) (get_or x (n + 2) (pos 0)) (get_or x (n + 3) (pos 0)))
