-- For the loop over the partitions of a macroblock: what holds of the window and the field before each partition, and again after it.
-- Assumes nothing.
use mathlib.Core.Path.{◌≡◌, refl, sym, subst, ◌∙◌}
use mathlib.Core.List.{List}
use Prim.Native.Nat.{ℕ, ◌+◌, ◌-◌, ◌*◌, ◌≤◌}
use native.Mathlib.Omega.{arith}
use lib.Dec.{lit<}
use lib.IntN.{ℤ, nat_abs}
use lib.ListN.{length}
use Rattle.picture.specs.Painted.{Inside}
use Rattle.picture.specs.InnerPicture.{Within}
use Rattle.picture.specs.Picture.{cell_count}
use Rattle.picture.proofs.Laws.{plane-inside}
use Rattle.picture.specs.Field.{Field}
use Rattle.picture.specs.InnerField.{lent_field}
use Rattle.vectors.specs.Predict.{predicted, predictor}
use Rattle.vectors.specs.Stored.{stored_field}
use Rattle.vectors.specs.InnerWindow.{Seen, Part, corners}
pub use Rattle.vectors.specs.InnerWindow.{Follows}
use Rattle.vectors.specs.declared.svq3_frame.Vector.{Vector}
use Rattle.vectors.specs.declared.window.Neighbours.{Neighbours}
use Rattle.vectors.proofs.Predictors.{held-size}
use Rattle.vectors.proofs.Storing.{stored-cols, stored-rows, stored-sized}
use Rattle.vectors.proofs.Windows.{seen_stored}

module _ {cols rows column row : ℕ} (g : Within cols rows column row) where
  -- what `load` and `mark_macroblock` require
  pub macroblock-cells : {size : ℕ} → size ≡ cell_count cols rows → Inside (4 * cols) (4 * column) (4 * row) 4 4 size
  macroblock-cells e = plane-inside 4 (lit< tt) g e

  -- what `load` leaves
  pub follows-start : {mv : List ℤ} {marks : List ℕ} {n : Neighbours} → length mv ≡ 2 * cell_count cols rows → length marks ≡ cell_count cols rows
      → ((wide high : ℕ) → Seen wide high (lent_field cols rows mv marks) column row n) → (wide high : ℕ) → Follows wide high (lent_field cols rows mv marks) cols rows column row n
  follows-start e k s wide high = record { same_cols = refl; same_rows = refl; sized = record { numbers = e; cells = k }; seen = s wide high }

  module _ {f : Field} {n : Neighbours} {wide high : ℕ} (t : Follows wide high f cols rows column row n) (cx cy : ℕ) (p : Part cx cy wide high) where
    grid : Within f.cols f.rows column row
    grid = subst (λ n. Within n f.rows column row) (sym t.same_cols) (subst (λ n. Within cols n column row) (sym t.same_rows) g)

    -- what `predict_mv` answers may be moved
    pub follows-held : {v : Vector} → v ≡ predictor f (4 * column + cx) (4 * row + cy) wide high → (nat_abs v.x.0 ≤ 393216) × (nat_abs v.y.0 ≤ 393216)
    unfolding predictor
    follows-held {v} e = subst (λ (u : Vector). (nat_abs u.x.0 ≤ 393216) × (nat_abs u.y.0 ≤ 393216)) (sym e) (
      held-size (16 * f.cols) (4 * (4 * column + cx)) (4 * wide) (predicted f (4 * column + cx) (4 * row + cy) wide).x.0 (omega (arith, grid.across, p.across)) (omega (arith, grid.wide)),
      held-size (16 * f.rows) (4 * (4 * row + cy)) (4 * high) (predicted f (4 * column + cx) (4 * row + cy) wide).y.0 (omega (arith, grid.down, p.down)) (omega (arith, grid.high)),
    )

    -- what `store_partition` leaves
    pub follows-stored : {n' : Neighbours} (v : Vector) → n'.vectors ≡ corners n.vectors ((cy + 1) * 6 + (cx + 1)) (wide - 1) (6 * (high - 1)) v → n'.marks ≡ corners n.marks ((cy + 1) * 6 + (cx + 1)) (wide - 1) (6 * (high - 1)) 1
        → Follows wide high (stored_field f (4 * column + cx) (4 * row + cy) wide high v.x.0 v.y.0) cols rows column row n'
    follows-stored v e k = record {
      same_cols = stored-cols f (4 * column + cx) (4 * row + cy) wide high v.x.0 v.y.0 ∙ t.same_cols;
      same_rows = stored-rows f (4 * column + cx) (4 * row + cy) wide high v.x.0 v.y.0 ∙ t.same_rows;
      sized = stored-sized f (4 * column + cx) (4 * row + cy) wide high v.x.0 v.y.0 t.sized;
      seen = seen_stored v t.sized grid p t.seen e k;
    }
