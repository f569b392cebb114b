-- Four numbers of a column, their sums, each rounded.
use Rattle.std.proofs.Common.{◌∙◌, ap, ℕ, [], ◌∷◌, ℤ, pos, nat_abs, get_or, arith}
use lib.Dec.{lit<}
use mir.Syntax.{w16}
use mir.Facts.{to_z-of_z}
use Rattle.ints.proofs.Fits.{back}
use Rattle.transform.specs.Residual.{rounded}
use Rattle.transform.specs.InnerPasses.{Small, sums_of, column_sums}
use Rattle.transform.proofs.Sums.{sum-abs, sum-read}
use Rattle.transform.proofs.exact.column.Goals.{Start}
use Rattle.transform.proofs.exact.column.Goals as goal

abbrev cell : Start → ℕ → ℤ
cell c k = get_or (get_or c.args.rows.now k []) c.args.c (pos 0)

small : (c : Start) → Small 40000000 (cell c 0) (cell c 1) (cell c 2) (cell c 3)
small c = let h = c.requires.3 in record { first = h 0; second = h 1; third = h 2; fourth = h 3 }

pub round-requires : goal.round-requires
round-requires c =
    let s = small (goal.at.round-requires c).Start in
    (omega (arith, ap nat_abs (sum-read 0 (lit< tt) s c.sums.ensures), sum-abs 0 40000000 s), omega (arith, ap nat_abs (to_z-of_z c.ranges.dc), c.requires.2))

pub round-requires-2 : goal.round-requires-2
round-requires-2 c =
    let s = small (goal.at.round-requires-2 c).Start in
    (omega (arith, ap nat_abs (sum-read 1 (lit< tt) s c.sums.ensures), sum-abs 1 40000000 s), omega (arith, ap nat_abs (to_z-of_z c.ranges.dc), c.requires.2))

pub round-requires-3 : goal.round-requires-3
round-requires-3 c =
    let s = small (goal.at.round-requires-3 c).Start in
    (omega (arith, ap nat_abs (sum-read 2 (lit< tt) s c.sums.ensures), sum-abs 2 40000000 s), omega (arith, ap nat_abs (to_z-of_z c.ranges.dc), c.requires.2))

pub round-requires-4 : goal.round-requires-4
round-requires-4 c =
    let s = small (goal.at.round-requires-4 c).Start in
    (omega (arith, ap nat_abs (sum-read 3 (lit< tt) s c.sums.ensures), sum-abs 3 40000000 s), omega (arith, ap nat_abs (to_z-of_z c.ranges.dc), c.requires.2))

pub returns : goal.returns
unfolding column_sums sums_of
returns c =
    let s = small (goal.at.returns c).Start in
    let d = to_z-of_z c.ranges.dc in
    let e0 = back w16 c.round.type_inv (c.round.ensures ∙ (λ i. rounded (sum-read 0 (lit< tt) s c.sums.ensures i) (d i))) in
    let e1 = back w16 c.round-2.type_inv (c.round-2.ensures ∙ (λ i. rounded (sum-read 1 (lit< tt) s c.sums.ensures i) (d i))) in
    let e2 = back w16 c.round-3.type_inv (c.round-3.ensures ∙ (λ i. rounded (sum-read 2 (lit< tt) s c.sums.ensures i) (d i))) in
    let e3 = back w16 c.round-4.type_inv (c.round-4.ensures ∙ (λ i. rounded (sum-read 3 (lit< tt) s c.sums.ensures i) (d i))) in
    λ i. e0 i ∷ e1 i ∷ e2 i ∷ e3 i ∷ []
