-- `vectors::svq3_frame::combined` answers `combined`, by how many neighbours there are.
use mathlib.Core.Path.{◌≡◌, sym, ap, ◌∙◌}
use Rattle.vectors.specs.Predict.{or_else, vector_of, median_of, present}
use Rattle.vectors.proofs.Predictors.{or-zero, counted, few, several}
use Rattle.vectors.proofs.svq3_frame.combined.Goals.{After-from-3}
use Rattle.vectors.proofs.svq3_frame.combined.Goals as goal

-- the three counts
counts : (c : After-from-3) → (c.from.result ≡ present c.args.a) × (c.from-2.result ≡ present c.args.b) × (c.from-3.result ≡ present c.args.c)
counts c = let a = c.args in (counted a.a c.is_some.ensures c.from.ensures, counted a.b c.is_some-2.ensures c.from-2.ensures, counted a.c c.is_some-3.ensures c.from-3.ensures)

pub returns-then-from-lt2 : goal.returns-then-from-lt2
returns-then-from-lt2 c =
    let a = c.args in
    let n = counts (goal.at.returns-then-from-lt2 c).After-from-3 in
    or-zero _ _ c.unwrap_or_default.ensures
    ∙ ap vector_of (c.or-then-from-lt2.ensures ∙ ap (or_else a.a) c.or.ensures)
    ∙ sym (few a.a a.b a.c n.0 n.1 n.2 c.if-from-lt2.true)

pub returns : goal.returns
returns c =
    let a = c.args in
    let n = counts (goal.at.returns c).After-from-3 in
    let x = or-zero a.a _ c.unwrap_or_default-2.ensures in
    let y = or-zero a.b _ c.unwrap_or_default-3.ensures in
    let z = or-zero a.c _ c.unwrap_or_default-4.ensures in
    c.median_of.ensures ∙ (λ i. median_of (x i) (y i) (z i)) ∙ sym (several a.a a.b a.c n.0 n.1 n.2 c.if-from-lt2.false)
