-- What is read of levels from place n on, in the slice `&l[n..]`.
-- Assumes nothing.
use mathlib.Core.Path.{◌≡◌, refl, sym, ap, ◌∙◌}
use mathlib.Core.List.{List}
use Prim.Native.Nat.{ℕ, ◌+◌, ◌-◌, ◌*◌}
use native.Mathlib.Nat.{add_assoc}
use lib.IntN.{ℤ, pos, ◌*ℤ◌}
use lib.ListN.{length, get_or, take, drop}
use lib.Seq.{get_or-drop}
use Rattle.std.proofs.Common.{add-zero}
use Rattle.std.proofs.lemmas.List.{take_rest}
use Rattle.ints.specs.Z.{sat_z}
use Rattle.transform.specs.Tables.{dequant_coeff, chroma_coeff}
use Rattle.transform.specs.Residual.{placed, residual}
use Rattle.transform.specs.InnerResidual.{luma_residual, chroma_residual}
use Rattle.transform.specs.ChromaDc.{secondary, scaled_at, chroma_dc}
use Rattle.transform.specs.InnerPasses.{sums_of, exact_at, row_sums}

rest : ℕ → List ℤ → List ℤ
rest n l = take (length l - n) (drop n l)

rest-at : (n k : ℕ) (l : List ℤ) → get_or (rest n l) k (pos 0) ≡ get_or l (n + k) (pos 0)
unfolding rest
rest-at n k l = ap (λ m. get_or m k (pos 0)) (take_rest l n) ∙ get_or-drop n l k (pos 0)

placed-slice : (n m : ℕ) (l : List ℤ) → placed (take (length l - n) (drop n l)) m ≡ placed l (n + m)
unfolding placed rest
placed-slice n m l = λ i r c. (rest-at n (m + (4 * r + c)) l ∙ ap (λ k. get_or l k (pos 0)) (sym (add_assoc n m (4 * r + c)))) i

pub placed-rest : (n : ℕ) (l : List ℤ) → placed (take (length l - n) (drop n l)) 0 ≡ placed l n
placed-rest n l = placed-slice n 0 l ∙ ap (placed l) (add-zero n)

pub luma-slice : (q n m : ℕ) (l : List ℤ) → luma_residual q (take (length l - n) (drop n l)) m ≡ luma_residual q l (n + m)
unfolding luma_residual
luma-slice q n m l = ap (residual (dequant_coeff q) (pos 0)) (placed-slice n m l)

pub chroma-slice : (q : ℕ) (dc : ℤ) (n m : ℕ) (l : List ℤ) → chroma_residual q dc (take (length l - n) (drop n l)) m ≡ chroma_residual q dc l (n + m)
unfolding chroma_residual
chroma-slice q dc n m l = ap (residual (chroma_coeff q) dc) (placed-slice n m l)

pub chroma_dc-rest : (scale n : ℕ) (l : List ℤ) → chroma_dc scale (take (length l - n) (drop n l)) 0 ≡ chroma_dc scale l n
unfolding chroma_dc scaled_at rest
chroma_dc-rest scale n l = λ i. secondary (at 0 n (add-zero n) i) (at 1 (n + 1) refl i) (at 2 (n + 2) refl i) (at 3 (n + 3) refl i)
  where
    at : (k m : ℕ) → n + k ≡ m → sat_z (get_or (rest n l) k (pos 0) *ℤ pos scale) ≡ sat_z (get_or l m (pos 0) *ℤ pos scale)
    at k m e = ap (λ v. sat_z (v *ℤ pos scale)) (rest-at n k l ∙ ap (λ k. get_or l k (pos 0)) e)

-- four levels from place n on, times the entry, and they transformed
pub exact-slice : (scale n k m : ℕ) (l : List ℤ) → n + k ≡ m → exact_at scale (take (length l - n) (drop n l)) k ≡ exact_at scale l m
unfolding exact_at rest
exact-slice scale n k m l e = ap (λ v. v *ℤ pos scale) (rest-at n k l ∙ ap (λ k. get_or l k (pos 0)) e)

pub row-slice : (scale n : ℕ) (l : List ℤ) → row_sums scale (take (length l - n) (drop n l)) 0 ≡ row_sums scale l n
unfolding row_sums
row-slice scale n l = λ i. sums_of (exact-slice scale n 0 n l (add-zero n) i) (exact-slice scale n 1 (n + 1) l refl i) (exact-slice scale n 2 (n + 2) l refl i) (exact-slice scale n 3 (n + 3) l refl i)
