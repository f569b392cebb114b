-- One block a turn: its columns are its residuals.
use Rattle.std.proofs.Common.{◌≡◌, ◌∙◌, ap, ◌*◌, ◌-◌, pos, nat_abs, length, take, drop, get_or, sym, subst, length-drop, arith, rules}
use Rattle.std.proofs.lemmas.List.{take_all}
use mir.Syntax.{w32}
use mir.Val.{SFits}
use mir.Facts.{to_z-of_z}
use Rattle.transform.specs.declared.Square.{Square}
use Rattle.transform.specs.Residual.{placed}
use Rattle.transform.specs.Added.{added}
use Rattle.transform.specs.InnerFour.{SquareIn}
use Rattle.transform.specs.InnerPasses.{Columns}
use Rattle.transform.proofs.Laws.{added-values}
use Rattle.transform.proofs.Unsaturated.{block-abs, block-is, block-short}
use Rattle.transform.proofs.Squares.{inside-block, none-added, one-added, all-added}
use Rattle.transform.proofs.four.add_exact.Goals.{In-loop-b, After-columns-r}
use Rattle.transform.proofs.four.add_exact.Goals as goal

-- the rows of the blocks from this one on
rest : (c : In-loop-b) → let y = c.rows-rows.result in take (16 - 4 * c.loop-b.b) (drop (4 * c.loop-b.b) y) ≡ drop (4 * c.loop-b.b) y
rest c =
    let y = c.rows-rows.result in
    take_all _ _ (omega (arith, length-drop (4 * c.loop-b.b) y, c.rows-rows.ensures.size))

-- the columns, at the DC of the turn
turned : (c : After-columns-r) → Columns (drop (4 * c.loop-b.b) c.rows-rows.result) (get_or c.args.dc.now c.loop-b.b (pos 0)) 4 c.columns-r.result
turned c =
    let f : SFits w32 (get_or c.args.dc.now c.loop-b.b (pos 0)) = search rules in
    let d = to_z-of_z f in
    let e = rest (goal.at.After-columns-r c).In-loop-b in
    rw (e, d) at c.columns-r.ensures

pub loop-b-init : goal.loop-b-init
loop-b-init c = none-added _ _ _ _ _

pub columns-r-requires : goal.columns-r-requires
columns-r-requires c =
    let b = c.loop-b.b in
    let y = c.rows-rows in
    let f : SFits w32 (get_or c.args.dc.now b (pos 0)) = search rules in
    rw (rest (goal.at.columns-r-requires c).In-loop-b)
    (omega (arith, length-drop (4 * b) y.result, y.ensures.size), omega (arith, ap nat_abs (to_z-of_z f), c.requires.exact.1 b c.loop-b-test.true), block-abs c.requires.exact.0 y.result y.ensures b)

pub reconstruct_4x4-requires : goal.reconstruct_4x4-requires
reconstruct_4x4-requires c =
    let b = c.loop-b.b in
    let y = c.rows-rows in
    let P : Square → Type 0 = λ q. SquareIn q 4 (length c.loop-b.plane) in (
      subst P (sym c.block.ensures) (inside-block b c.loop-b-test.true c.requires.inside c.loop-b.auto.plane),
      block-short c.requires.exact.0 b c.loop-b-test.true y.result y.ensures _ c.columns-r.result (turned (goal.at.reconstruct_4x4-requires c).After-columns-r) (c.requires.exact.1 b c.loop-b-test.true),
    )

pub loop-b-preserved : goal.loop-b-preserved
loop-b-preserved c =
    let b = c.loop-b.b in
    let y = c.rows-rows in
    let p = c.loop-b.plane in
    let e = c.block.ensures in
    one-added _ _ _ _ _ b c.loop-b.invariant
    (c.reconstruct_4x4.ensures
    ∙ (λ i. added p (e i).stride (e i).x (e i).y (placed c.columns-r.result 0))
    ∙ added-values p _ _ _ _ _ (block-is c.requires.exact.0 b c.loop-b-test.true y.result y.ensures _ c.columns-r.result (turned (goal.at.loop-b-preserved c).After-columns-r)))

pub returns : goal.returns
returns c =
    let e : c.loop-b.b ≡ 4 = omega arith in
    c.loop-b.invariant ∙ rw e (all-added _ _ _ _ _)
