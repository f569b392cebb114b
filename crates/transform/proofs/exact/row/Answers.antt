-- Four scaled levels, and their sums.
use Rattle.std.proofs.Common.{◌∙◌}
use mir.Syntax.{w32}
use Rattle.ints.proofs.Fits.{back}
use Rattle.transform.specs.InnerPasses.{sums_of, row_sums}
use Rattle.transform.proofs.exact.row.Goals as goal

pub returns : goal.returns
unfolding row_sums
returns c =
    let a = back w32 c.scale_small-a.type_inv c.scale_small-a.ensures in
    let b = back w32 c.scale_small-b.type_inv c.scale_small-b.ensures in
    let d = back w32 c.scale_small-c.type_inv c.scale_small-c.ensures in
    let e = back w32 c.scale_small-d.type_inv c.scale_small-d.ensures in
    c.sums.ensures ∙ (λ i. sums_of (a i) (b i) (d i) (e i))
