-- `picture::rows::store_row` meets its contract: what the row held is stored, one sample a turn.
use mathlib.Core.Path.{◌≡◌, refl, ◌∙◌}
use native.Mathlib.Nat.{zero-add}
use native.Mathlib.Numerals.{add-one}
use native.Mathlib.Omega.{arith}
use lib.ListN.{replicate, length-set}
use Rattle.picture.specs.InnerRows.{row, run}
use Rattle.picture.proofs.Laws.{row-values, row_same}
use Rattle.picture.proofs.rows.store_row.Goals as goal

pub loop-c-init : goal.loop-c-init
unfolding row
loop-c-init c = (refl, refl)

pub loop-c-preserved : goal.loop-c-preserved
unfolding row run
loop-c-preserved c = (simp length-set (omega arith), rw (add-one, c.loop-c.invariant.1, zero-add))

pub returns : goal.returns
unfolding run
returns c =
    let a = c.args in
    let e : c.loop-c.c ≡ a.n = omega arith in
    c.loop-c.invariant.1 ∙ rw e (row-values a.plane.now a.at _ _ a.n (λ k h. rw c.take_row-t.ensures (row_same (replicate 16 0) 0 (run a.block.now a.from) a.n k 0 h (omega arith))))
