-- Laws of this crate's definitions.
-- Assumes nothing.
use mathlib.Core.Path.{◌≡◌, refl, ap, ◌∙◌}
use mathlib.Core.List.{List, [], ◌∷◌}
use Prim.Native.Nat.{ℕ, zero, suc, ◌+◌, ◌*◌, ◌≤◌, ◌<◌}
use native.Mathlib.Nat.{zero-add, zero-mul}
use native.Mathlib.Omega.{arith}
use lib.Dec.{lit<}
use lib.IntN.{ℤ, pos, negsuc, neg_ℤ, ◌+ℤ◌, ◌*ℤ◌}
use lib.Signed.{mag}
use lib.ListN.{get_or}
use Rattle.ints.specs.Z.{when◌then◌else◌, clamp_z, sat_z, clip1_z}
use mir.Syntax.{w8}
use mir.Val.{SFits}
use Rattle.transform.specs.declared.svq3_dequant.TheConstants.{MATRIX}
use Rattle.ints.proofs.Fits.{read, within-clamp, within-lit, clamp-ind}
use Rattle.std.proofs.lemmas.Int.{ints}
use Rattle.std.proofs.Common.{rules}
use Rattle.ints.proofs.Linear.{clip1-z, mag-z}
use Rattle.picture.specs.Picture.{seen}
use Rattle.picture.specs.InnerRows.{row, rows}
use Rattle.picture.proofs.Laws.{more, row-values, rows_more, rows_other, painted-values}
use Rattle.transform.specs.Residual.{placed, listed, scaled, sum_of, weighed, rows_of, columns_of, rounded, residual}
use Rattle.transform.specs.InnerResidual.{no_levels}
use Rattle.transform.specs.Added.{reconstructed, added}
use Rattle.transform.specs.InnerArrays.{turned, short, shortened, finished, Short, reconstructed_at}

-- a number below 4, by cases
pub below-4 : (P : ℕ → Type 0) → P 0 → P 1 → P 2 → P 3 → (n : ℕ) → n < 4 → P n
below-4 P a b c d zero h = a
below-4 P a b c d (suc zero) h = b
below-4 P a b c d (suc (suc zero)) h = c
below-4 P a b c d (suc (suc (suc zero))) h = d
below-4 P a b c d (suc (suc (suc (suc n)))) h = absurd (omega arith)

-- ---- the matrix, by coefficients
-- a negative one
minus : (n : ℕ) (z : ℤ) → negsuc n *ℤ z ≡ neg_ℤ (pos (suc n) *ℤ z)
minus n (pos a) = refl
minus n (negsuc a) = omega (arith, ints)

-- as the code reads them from the table
abbrev pub coefficient : ℕ → ℕ → ℤ
coefficient k j = read w8 (get_or (get_or MATRIX k []) j (pos 0))

pub coefficient-fits : (k j : ℕ) → SFits w8 (coefficient k j)
coefficient-fits k j = search rules

-- four numbers by row k of the matrix
abbrev pub sum_by : ℕ → ℤ → ℤ → ℤ → ℤ → ℤ
sum_by k a b c d = coefficient k 0 *ℤ a +ℤ coefficient k 1 *ℤ b +ℤ coefficient k 2 *ℤ c +ℤ coefficient k 3 *ℤ d

pub weighed-sum : (k : ℕ) → k < 4 → (a b c d : ℤ) → sat_z (sum_by k a b c d) ≡ weighed k a b c d
unfolding weighed sum_of
weighed-sum k h a b c d =
    below-4 (λ k. sat_z (sum_by k a b c d) ≡ weighed k a b c d)
    refl
    (rw (minus 12 c, minus 16 d) refl)
    (rw (minus 6 b, minus 12 c) refl)
    (rw (minus 16 b, minus 6 d) refl)
    k h

-- the rows turned, twice: rows, then columns
abbrev pub pass : List ℤ → List ℤ
pass l = listed (turned (rows_of (placed l 0)))

pub two-passes : (scale : ℕ) (dc : ℤ) (levels : ℕ → ℕ → ℤ) {x y z r : List ℤ} → x ≡ listed (scaled scale levels) → y ≡ pass x → z ≡ pass y → r ≡ listed (shortened (finished dc (placed z 0)))
    → r ≡ listed (shortened (residual scale dc levels))
unfolding listed turned rows_of columns_of placed residual shortened finished
two-passes scale dc levels e f g h =
    h ∙ ap (λ l. listed (shortened (finished dc (placed l 0)))) (g ∙ ap pass (f ∙ ap pass e))

-- ---- a turn of the loop over the rows of a block: what it reads, no turn before it wrote
pub row-added : (s x y j : ℕ) (plane₀ : List ℕ) (residual : List ℤ) {plane plane' : List ℕ} → x + 4 ≤ s
    → plane ≡ rows plane₀ s x y (reconstructed plane₀ s x y (placed residual 0)) 4 j
    → plane' ≡ row plane ((y + j) * s + x) (reconstructed_at plane ((y + j) * s + x) residual (4 * j)) 4
    → plane' ≡ rows plane₀ s x y (reconstructed plane₀ s x y (placed residual 0)) 4 (j + 1)
unfolding reconstructed reconstructed_at placed seen
row-added s x y j plane₀ residual {plane} h e f =
    rows_more plane₀ s x y _ 4 j e
    (f ∙ row-values plane ((y + j) * s + x) _ _ 4
    (λ c l.
    let old : get_or plane ((y + j) * s + x + c) 0 ≡ get_or plane₀ ((y + j) * s + x + c) 0 =
    ap (λ m. get_or m ((y + j) * s + x + c) 0) e
    ∙ rows_other plane₀ s x y _ 4 j ((y + j) * s + x + c) 0
    (λ r k lr lk. let m : (y + r) * s + s ≤ (y + j) * s = more s (omega arith) in omega arith) in
    rw (old, zero-add) refl))

-- ---- held residuals
-- a residual beyond 255 either way makes no more difference
clip-short : (a : ℕ) (z : ℤ) → a < 256 → clip1_z (pos a +ℤ short z) ≡ clip1_z (pos a +ℤ z)
unfolding short
clip-short a z h =
    clamp-ind
    (λ c. clip1_z (pos a +ℤ c) ≡ clip1_z (pos a +ℤ z))
    (negsuc 4095)
    (pos 4095)
    z
    (λ e. omega (arith, ints, clip1-z (pos a +ℤ negsuc 4095), clip1-z (pos a +ℤ z), mag-z (pos a +ℤ z), mag-z (pos a +ℤ negsuc 4095)))
    (λ e f. omega (arith, ints, clip1-z (pos a +ℤ pos 4095), clip1-z (pos a +ℤ z)))
    (λ e f. refl)

-- a block read back from its array
pub placed-listed : (f : ℕ → ℕ → ℤ) (r c : ℕ) → r < 4 → c < 4 → placed (listed f) 0 r c ≡ f r c
unfolding placed listed
placed-listed f r c h k =
    below-4 (λ r. (c : ℕ) → c < 4 → placed (listed f) 0 r c ≡ f r c)
    (below-4 (λ c. placed (listed f) 0 0 c ≡ f 0 c) refl refl refl refl)
    (below-4 (λ c. placed (listed f) 0 1 c ≡ f 1 c) refl refl refl refl)
    (below-4 (λ c. placed (listed f) 0 2 c ≡ f 2 c) refl refl refl refl)
    (below-4 (λ c. placed (listed f) 0 3 c ≡ f 3 c) refl refl refl refl)
    r h c k

-- only the residuals of the block count
pub added-values : (plane : List ℕ) (s x y : ℕ) (f g : ℕ → ℕ → ℤ) → ((r c : ℕ) → r < 4 → c < 4 → f r c ≡ g r c) → added plane s x y f ≡ added plane s x y g
unfolding added reconstructed
added-values plane s x y f g e = painted-values s x y 4 4 _ _ plane (λ r c lr lc. ap (λ z. clip1_z (pos (seen plane s x y r c) +ℤ z)) (e r c lr lc))

-- samples of 8 bits, to which held residuals are added: as if they were not held
added-short : (plane : List ℕ) (s x y : ℕ) (f : ℕ → ℕ → ℤ) → ((n : ℕ) → get_or plane n 0 < 256) → added plane s x y (shortened f) ≡ added plane s x y f
unfolding added reconstructed shortened seen
added-short plane s x y f h = painted-values s x y 4 4 _ _ plane (λ r c lr lc. clip-short _ (f r c) (h _))

pub added-listed : (plane : List ℕ) (s x y : ℕ) (f : ℕ → ℕ → ℤ) {l : List ℤ} → l ≡ listed (shortened f) → ((n : ℕ) → get_or plane n 0 < 256) → added plane s x y (placed l 0) ≡ added plane s x y f
added-listed plane s x y f e h = ap (λ l. added plane s x y (placed l 0)) e ∙ added-values plane s x y _ _ (placed-listed (shortened f)) ∙ added-short plane s x y f h

-- ---- an array of held residuals
short_none : Short []
short_none = record { small = λ n. omega arith }

short-one : (z : ℤ) {l : List ℤ} → mag z < 4096 → Short l → Short (z ∷ l)
short-one z {l} k h = record { small = go }
  where
    go : (n : ℕ) → mag (get_or (z ∷ l) n (pos 0)) < 4096
    go zero = k
    go (suc n) = h.small n

pub short-all : (f : ℕ → ℕ → ℤ) → ((r c : ℕ) → r < 4 → c < 4 → mag (f r c) < 4096) → Short (listed f)
unfolding listed
short-all f h = search (short_none, short-one, lit<, tt) depth 40

pub short-listed : (f : ℕ → ℕ → ℤ) → Short (listed (shortened f))
unfolding shortened short
short-listed f = short-all (shortened f) (λ r c lr lc. (within-clamp 4096 (negsuc 4095) (pos 4095) (f r c) (within-lit _ _ tt) (within-lit _ _ tt)).within)

-- ---- a block with no levels but its DC
weighed-none : (k : ℕ) → weighed k (pos 0) (pos 0) (pos 0) (pos 0) ≡ pos 0
unfolding weighed sum_of sat_z clamp_z when◌then◌else◌
weighed-none zero = refl
weighed-none (suc zero) = refl
weighed-none (suc (suc zero)) = refl
weighed-none (suc (suc (suc k))) = refl

scaled-none : (scale : ℕ) → scaled scale no_levels ≡ no_levels
unfolding scaled no_levels sat_z clamp_z when◌then◌else◌
scaled-none scale = λ i r c. sat_z (pos (zero-mul scale i))

transformed-none : (scale : ℕ) → columns_of (rows_of (scaled scale no_levels)) ≡ no_levels
unfolding columns_of rows_of no_levels
transformed-none scale =
    ap (λ x. columns_of (rows_of x)) (scaled-none scale) ∙ ap columns_of (λ i r c. weighed-none c i) ∙ (λ i r c. weighed-none r i)

pub dc-only : (scale : ℕ) (dc : ℤ) → residual scale dc no_levels ≡ (λ (r c : ℕ). rounded (pos 0) dc)
unfolding residual no_levels
dc-only scale dc = λ i r c. rounded (transformed-none scale i r c) dc
