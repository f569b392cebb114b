-- One sample a turn; what a turn reads, no turn before it wrote.
use Rattle.std.proofs.Common.{◌≡◌, ◌+◌, ◌-◌, take, drop, refl, ◌∙◌, ap, pos, ◌+ℤ◌, get_or, arith, rules}
use Rattle.std.proofs.lemmas.List.{get_or-take, get_or-drop}
use Rattle.std.proofs.lemmas.Slice.{put_mid-paste}
use native.Mathlib.Nat.{zero-add}
use lib.Seq.{length-take-le}
use lib.ListN.{length-drop}
use mir.Syntax.{w16}
use mir.Val.{SFits}
use mir.Facts.{to_z-of_z}
use Rattle.ints.specs.Z.{clip1_z}
use Rattle.picture.specs.InnerRows.{row}
use Rattle.picture.proofs.Laws.{row_more, row_other, row_same, row-paste}
use Rattle.transform.specs.InnerArrays.{reconstructed_at}
use Rattle.transform.proofs.svq3_pred.add_row.Goals as goal

pub loop-c-init : goal.loop-c-init
unfolding row
loop-c-init c = refl

pub loop-c-preserved : goal.loop-c-preserved
unfolding reconstructed_at
loop-c-preserved c =
    let a = c.args in
    let l = c.loop-c in
    let p : get_or l.sample-items l.c 0 ≡ get_or a.plane.now (a.at + l.c) 0 =
    ap (λ m. get_or m l.c 0) l.invariant ∙ row_other _ 0 _ l.c l.c 0 (λ k h. omega arith) ∙ get_or-take _ _ l.c 0 (omega arith) ∙ get_or-drop a.at a.plane.now l.c 0 in
    let f : SFits w16 (get_or a.residual.now (a.from + l.c) (pos 0)) = search rules in
    let r = to_z-of_z f in
    rw zero-add at (row_more _ 0 (reconstructed_at a.plane.now a.at a.residual.now a.from) l.c l.invariant (c.reconstruct_sample.ensures ∙ (λ i. clip1_z (pos (p i) +ℤ r i))))

pub returns : goal.returns
returns c =
    let a = c.args in
    let items = c.loop-c.sample-items in
    let v = reconstructed_at a.plane.now a.at a.residual.now a.from in
    let some = take (a.at + 4 - a.at) (drop a.at a.plane.now) in
    let part = length-take-le (a.at + 4 - a.at) (drop a.at a.plane.now) (omega (arith, length-drop a.at a.plane.now)) in
    let e : c.loop-c.c ≡ 4 = omega arith in
    let done : items ≡ row some 0 v 4 = c.loop-c.invariant ∙ rw e refl in
    put_mid-paste a.at _ a.plane.now items items 4 refl (omega arith) (omega arith)
    ∙ row-paste a.plane.now a.at v items 0 4 (omega arith) (omega arith)
    (λ k h. ap (λ m. get_or m k 0) done ∙ rw zero-add at (row_same some 0 v 4 k 0 h (omega arith)))
