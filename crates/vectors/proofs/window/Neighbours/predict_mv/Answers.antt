-- `vectors::window::Neighbours::predict_mv` answers `predictor` of every field that the window shows.
use mathlib.Core.Path.{sym, ap, ◌∙◌}
use Prim.Native.Nat.{◌+◌, ◌*◌}
use Rattle.vectors.specs.InnerWindow.{shown_at}
use Rattle.vectors.specs.Predict.{vector, combined, held_in, predictor}
use Rattle.vectors.proofs.Predictors.{third}
use Rattle.vectors.proofs.Windows.{seen-predicted}
use Rattle.vectors.proofs.window.Neighbours.predict_mv.Goals as goal

pub returns : goal.returns
unfolding predictor
returns c f ec er seen =
    let a = c.args in
    let n = a.self.now in
    let q = a.part in
    let d = q.y * 6 + q.x in
    let third-cell = ap (shown_at n) c.marked_or-c.ensures.1 ∙ third n (d + 1 + q.wide) d in
    let p = c.predicted-p.ensures
    ∙ (λ i. combined (shown_at n (d + 6)) (shown_at n (d + 1)) (third-cell i))
    ∙ seen-predicted q.lies seen in
    let x = c.held_in.ensures ∙ λ i. held_in (16 * sym ec i) (4 * (4 * a.column + q.x)) (4 * q.wide) (p i).x.0 in
    let y = c.held_in-2.ensures ∙ λ i. held_in (16 * sym er i) (4 * (4 * a.row + q.y)) (4 * q.high) (p i).y.0 in
    λ i. vector (x i) (y i)
