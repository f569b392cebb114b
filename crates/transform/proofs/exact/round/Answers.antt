-- The sum and the DC fit 32 bits, and their quotient 16.
use mathlib.Core.Path.{◌≡◌, ◌∙◌, ap, sym, subst}
use lib.IntN.{ℤ, pos, ◌+ℤ◌, ◌*ℤ◌}
use lib.Signed.{shr_z}
use mir.Syntax.{w16, w32}
use mir.Val.{SFits}
use mir.Facts.{to_z-of_z}
use Rattle.ints.proofs.Fits.{read, fits, within-mag, shr-floor, Within}
use Rattle.ints.proofs.Same.{reads}
use Rattle.transform.specs.Residual.{rounded}
use Rattle.transform.proofs.Sums.{with-dc, with-rounding, rounded-within}
use Rattle.transform.proofs.exact.round.Goals.{Start}
use Rattle.transform.proofs.exact.round.Goals as goal

abbrev r : ℤ → ℤ
r z = read w32 z

-- the sum, with the DC, with what rounds it: as the machine has them, each fits
dc-is : (c : Start) → r c.args.t +ℤ r (pos 169 *ℤ r c.args.dc) ≡ c.args.t +ℤ pos 169 *ℤ c.args.dc
dc-is c =
    let t = to_z-of_z c.ranges.t in
    let d = c.requires.1 in
    let e : r (pos 169 *ℤ r c.args.dc) ≡ pos 169 *ℤ c.args.dc = search reads depth 20 in
    λ i. t i +ℤ e i

fits-1 : (c : Start) → SFits w32 (r c.args.t +ℤ r (pos 169 *ℤ r c.args.dc))
fits-1 c = subst (SFits w32) (sym (dc-is c)) (with-dc c.args.t c.args.dc c.requires.0 c.requires.1)

rounding-is : (c : Start) → r (r c.args.t +ℤ r (pos 169 *ℤ r c.args.dc)) +ℤ pos 524288 ≡ c.args.t +ℤ pos 169 *ℤ c.args.dc +ℤ pos 524288
rounding-is c = ap (λ z. z +ℤ pos 524288) (to_z-of_z (fits-1 c) ∙ dc-is c)

fits-2 : (c : Start) → SFits w32 (r (r c.args.t +ℤ r (pos 169 *ℤ r c.args.dc)) +ℤ pos 524288)
fits-2 c = subst (SFits w32) (sym (rounding-is c)) (with-rounding c.args.t c.args.dc c.requires.0 c.requires.1)

small : (c : Start) → Within 4096 (rounded c.args.t c.args.dc)
small c = rounded-within c.args.t c.args.dc c.requires.0 c.requires.1

shifted : (c : Start) → shr_z (r (r (r c.args.t +ℤ r (pos 169 *ℤ r c.args.dc)) +ℤ pos 524288)) 1048576 ≡ rounded c.args.t c.args.dc
unfolding rounded
shifted c = ap (λ z. shr_z z 1048576) (to_z-of_z (fits-2 c) ∙ rounding-is c) ∙ shr-floor _ 1048576

result : (c : Start) → r (shr_z (r (r (r c.args.t +ℤ r (pos 169 *ℤ r c.args.dc)) +ℤ pos 524288)) 1048576) ≡ rounded c.args.t c.args.dc
result c = ap r (shifted c) ∙ to_z-of_z {w = w32} (fits (within-mag 4096 _ _ (small c).within tt))

pub overflow_cast-result : goal.overflow_cast-result
overflow_cast-result c = subst (SFits w16) (sym (result c)) (fits (within-mag 4096 _ _ (small c).within tt))

pub overflow_add-result : goal.overflow_add-result
overflow_add-result c = fits-1 c

pub overflow_add-result-2 : goal.overflow_add-result-2
overflow_add-result-2 c = fits-2 c

pub returns : goal.returns
returns c = to_z-of_z (overflow_cast-result c) ∙ result c
