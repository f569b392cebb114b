-- Number 4 k + i is row i by row k of the matrix.
use Rattle.std.proofs.Common.{◌/◌, ◌%◌, ◌∙◌, [], ◌∷◌, pos, get_or, rules}
use mathlib.Core.List.{map}
use Rattle.std.specs.List.{range_with_len}
use Rattle.transform.specs.Residual.{placed, listed, rows_of}
use Rattle.transform.specs.InnerArrays.{turned, weighed_row}
use Rattle.ints.proofs.Made.{made-by}
use Rattle.transform.proofs.svq3_dequant.apply_luma_transform_rows.Goals as goal

pub returns : goal.returns
unfolding listed turned rows_of placed weighed_row
returns c =
    let p = c.weigh_rows in
    let q = c.weigh_rows-2 in
    let r = c.weigh_rows-3 in
    let s = c.weigh_rows-4 in
    made-by _ (λ n. get_or (get_or (p.result ∷ q.result ∷ r.result ∷ s.result ∷ []) (n / 4) []) (n % 4) (pos 0)) _ (λ i y q h. search rules) (pos 0) 16 c.from_fn.ensures.items
    ∙ (λ i. map (λ n. get_or (get_or (p.ensures i ∷ q.ensures i ∷ r.ensures i ∷ s.ensures i ∷ []) (n / 4) []) (n % 4) (pos 0)) (range_with_len 0 16))
