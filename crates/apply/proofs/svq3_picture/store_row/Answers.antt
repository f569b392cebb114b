-- `apply::svq3_picture::store_row` stores a row of pairs: after c cells, the first 2 · c numbers.
use mathlib.Core.Path.{◌≡◌, refl, ap, ◌∙◌}
use Prim.Native.Nat.{ℕ, ◌*◌}
use native.Mathlib.Omega.{arith}
use lib.ListN.{length-set}
use mir.Syntax.{w32}
use Rattle.ints.proofs.Fits.{back}
use Rattle.picture.specs.InnerRows.{row}
use Rattle.apply.specs.InnerCells.{own_number}
use Rattle.apply.proofs.Fields.{own-more}
use Rattle.apply.proofs.svq3_picture.store_row.Goals as goal

pub loop-c-init : goal.loop-c-init
unfolding row
loop-c-init c = refl

pub loop-c-preserved : goal.loop-c-preserved
loop-c-preserved c =
    let l = c.loop-c in
    own-more _ _ _ _ l.c l.invariant (back w32 c.vx-1.given refl) (back w32 c.vy-1.given refl)

pub returns : goal.returns
returns c =
    let e : c.loop-c.c ≡ 4 = omega arith in
    c.loop-c.invariant ∙ ap (λ (n : ℕ). row c.args.mv.now c.args.at (own_number c.args.vectors.now c.args.four) (2 * n)) e

pub overflow_mul-i : goal.overflow_mul-i
overflow_mul-i c = omega arith

pub overflow_shr-i : goal.overflow_shr-i
overflow_shr-i c = omega arith

pub overflow_mul-vx : goal.overflow_mul-vx
overflow_mul-vx c = omega arith

pub offset_bounds-vectors-i : goal.offset_bounds-vectors-i
offset_bounds-vectors-i c = omega arith

pub bounds-vectors-i : goal.bounds-vectors-i
bounds-vectors-i c = omega arith

pub overflow_mul-vy : goal.overflow_mul-vy
overflow_mul-vy c = omega arith

pub overflow_add-vy : goal.overflow_add-vy
overflow_add-vy c = omega arith

pub offset_bounds-vectors-i-in-loop-c : goal.offset_bounds-vectors-i-in-loop-c
offset_bounds-vectors-i-in-loop-c c = omega arith

pub bounds-vectors-i-in-loop-c : goal.bounds-vectors-i-in-loop-c
bounds-vectors-i-in-loop-c c = omega arith

pub overflow_mul-vx-in-loop-c : goal.overflow_mul-vx-in-loop-c
overflow_mul-vx-in-loop-c c = omega arith

pub overflow_add-vx : goal.overflow_add-vx
overflow_add-vx c = omega arith

pub offset_bounds-mv-at : goal.offset_bounds-mv-at
offset_bounds-mv-at c = omega arith

pub bounds-mv-at : goal.bounds-mv-at
bounds-mv-at c = omega arith

pub overflow_mul-vy-in-loop-c : goal.overflow_mul-vy-in-loop-c
overflow_mul-vy-in-loop-c c = omega arith

pub overflow_add-vy-in-loop-c : goal.overflow_add-vy-in-loop-c
overflow_add-vy-in-loop-c c = omega arith

pub overflow_add-vy-in-loop-c-2 : goal.overflow_add-vy-in-loop-c-2
overflow_add-vy-in-loop-c-2 c = omega arith

pub offset_bounds-mv-at-in-loop-c : goal.offset_bounds-mv-at-in-loop-c
offset_bounds-mv-at-in-loop-c c = omega arith

pub bounds-mv-at-in-loop-c : goal.bounds-mv-at-in-loop-c
bounds-mv-at-in-loop-c c = simp length-set (omega arith)
