-- A rule of a table holds at each entry when it is true of them all, which is computed.
-- Assumes nothing.
use mathlib.Core.Bool.{Bool, true, false, ◌&&◌}
use mathlib.Core.List.{List, [], ◌∷◌}
use Prim.Native.Nat.{ℕ, zero, suc, ◌≤◌, ◌<◌}
use native.Mathlib.Nat.{le_of_suc-le-suc, not-suc-le-zero}
use native.Mathlib.Omega.{arith}
use lib.Dec.{T, leb, ltb, leb→le, ltb→lt}
use lib.ListN.{length, get_or}
use Rattle.transform.specs.Tables.{dequant_coeff_table, chroma_quantiser_index_table, dequant_coeff, chroma_quantiser_index, chroma_coeff}

both : (a b : Bool) → T (a && b) → T a × T b
both true b t = (tt, t)
both false b t = absurd t

abbrev every : (ℕ → Bool) → List ℕ → Bool
every f [] = true
every f (x ∷ l) = f x && every f l

every-at : (f : ℕ → Bool) (l : List ℕ) → T (every f l) → (k : ℕ) → k < length l → T (f (get_or l k 0))
every-at f [] t k h = absurd (not-suc-le-zero h)
every-at f (x ∷ l) t zero h = (both (f x) (every f l) t).0
every-at f (x ∷ l) t (suc k) h = every-at f l (both (f x) (every f l) t).1 k (le_of_suc-le-suc h)

-- an entry multiplies: it is not 0, and a level times it fits 64 bits
pub entry : (q : ℕ) → q ≤ 31 → (0 < dequant_coeff q) × (dequant_coeff q ≤ 141533)
unfolding dequant_coeff
entry q h =
    let x = get_or dequant_coeff_table q 0 in
    let b = both (ltb 0 x) (leb x 141533) (every-at (λ n. ltb 0 n && leb n 141533) dequant_coeff_table tt q (omega arith)) in
    (ltb→lt 0 x b.0, leb→le x 141533 b.1)

pub index : (q : ℕ) → q ≤ 31 → chroma_quantiser_index q ≤ 31
unfolding chroma_quantiser_index
index q h = leb→le _ 31 (every-at (λ n. leb n 31) chroma_quantiser_index_table tt q (omega arith))

pub chroma-entry : (q : ℕ) → q ≤ 31 → (0 < chroma_coeff q) × (chroma_coeff q ≤ 141533)
unfolding chroma_coeff
chroma-entry q h = entry (chroma_quantiser_index q) (index q h)
