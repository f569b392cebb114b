-- One partition: what its prediction, its difference and its storing make of what was read before it.
-- Assumes nothing.
use mathlib.Core.Path.{◌≡◌, sym, ap, ◌∙◌, transport}
use mathlib.Core.List.{List}
use Prim.Native.Nat.{ℕ, ◌+◌, ◌-◌, ◌*◌, ◌/◌, ◌≤◌}
use lib.IntN.{ℤ, nat_abs}
use lib.ListN.{set}
use Rattle.bits.specs.Code.{bit_value}
use Rattle.vectors.specs.Modes.{partition_width, partition_height, offset_x, offset_y}
use Rattle.picture.specs.Field.{Field}
use Rattle.vectors.specs.Predict.{predictor}
use Rattle.vectors.specs.Units.{stored_part, clipped_part}
use Rattle.vectors.specs.Stored.{stored_field}
use Rattle.vectors.specs.InnerWindow.{Seen, Follows, corners}
use Rattle.vectors.specs.declared.svq3_frame.Vector.{Vector}
use Rattle.vectors.specs.declared.svq3_mb.Partition.{Partition}
use Rattle.vectors.specs.declared.window.Neighbours.{Neighbours}
use Rattle.vectors.proofs.Following.{follows-held, follows-stored}
use Rattle.reading.specs.Read.{Moving, moved, predictor_at, stored_at}
use Rattle.reading.specs.InnerAnswers.{Holds}
use Rattle.reading.specs.declared.svq3_frame.Motion.{Motion}

-- partition i is where its mode puts it
abbrev pub Ith : Partition → ℕ → ℕ → Type 0
Ith part mode i = (part.x ≡ offset_x mode i / 4) × (part.y ≡ offset_y mode i / 4) × (part.wide ≡ partition_width mode / 4) × (part.high ≡ partition_height mode / 4)

module _ (motion : Motion) (i : ℕ) (part : Partition) (e : Ith part motion.mb.call.mode i) where
  abbrev FollowsAt : ℕ → ℕ → Field → Neighbours → Type 0
  FollowsAt wide high f near = Follows wide high f motion.mb.grid.cols motion.mb.grid.rows motion.mb.call.column motion.mb.call.row near

  -- the window, by the partition's size
  size-follows : {f : Field} {near : Neighbours} → FollowsAt (partition_width motion.mb.call.mode / 4) (partition_height motion.mb.call.mode / 4) f near → FollowsAt part.wide part.high f near
  size-follows {f} {near} t = transport (λ j. FollowsAt (sym e.2 j) (sym e.3 j) f near) t

  -- what a prediction answers
  abbrev Predicts : Neighbours → Vector → Type 0
  Predicts near from =
      (f : Field) → f.cols ≡ motion.mb.grid.cols → f.rows ≡ motion.mb.grid.rows → Seen part.wide part.high f motion.mb.call.column motion.mb.call.row near
      → from ≡ predictor f (4 * motion.mb.call.column + part.x) (4 * motion.mb.call.row + part.y) part.wide part.high

  module _ {f : Field} {near : Neighbours} (t : FollowsAt (partition_width motion.mb.call.mode / 4) (partition_height motion.mb.call.mode / 4) f near) {from : Vector} (answered : Predicts near from) where
    pub held_at : (nat_abs from.x.0 ≤ 393216) × (nat_abs from.y.0 ≤ 393216)
    held_at = follows-held motion.mb.within (size-follows t) part.x part.y part.lies (answered f t.same_cols t.same_rows (size-follows t).seen)

    predicted-at : from ≡ predictor_at motion.mb.call f i
    unfolding predictor_at
    predicted-at = answered f t.same_cols t.same_rows (size-follows t).seen ∙ λ j. predictor f (4 * motion.mb.call.column + e.0 j) (4 * motion.mb.call.row + e.1 j) (e.2 j) (e.3 j)

  -- MOVED
  module _ (dx dy : ℤ) (m : Moving) {clipped : ℕ} {vectors : List ℤ} {near : Neighbours} (t : Holds m motion clipped vectors near) {from : Vector} (answered : Predicts near from)
      (v : Vector) (ex : v.x.0 ≡ stored_part motion.precision from.x.0 dx) (ey : v.y.0 ≡ stored_part motion.precision from.y.0 dy)
      {bx by : ℕ} (fx : bx ≡ bit_value (clipped_part motion.precision from.x.0 dx)) (fy : by ≡ bit_value (clipped_part motion.precision from.y.0 dy))
      {vx vy : ℤ} (ax : vx ≡ v.x.0) (ay : vy ≡ v.y.0)
      {near' : Neighbours} (en : near'.vectors ≡ corners near.vectors ((part.y + 1) * 6 + (part.x + 1)) (part.wide - 1) (6 * (part.high - 1)) v) (em : near'.marks ≡ corners near.marks ((part.y + 1) * 6 + (part.x + 1)) (part.wide - 1) (6 * (part.high - 1)) 1) where
    pub moved_at : Holds (moved motion.mb.call motion.precision i m dy dx) motion (clipped + bx + by) (set (set vectors (2 * i) vx) (2 * i + 1) vy) near'
    unfolding moved stored_at
    moved_at =
        let f = m.field in
        let pv = predicted-at t.follows answered in
        let sx = ex ∙ ap (λ (u : Vector). stored_part motion.precision u.x.0 dx) pv in
        let sy = ey ∙ ap (λ (u : Vector). stored_part motion.precision u.y.0 dy) pv in
        let kx = fx ∙ ap (λ (u : Vector). bit_value (clipped_part motion.precision u.x.0 dx)) pv in
        let ky = fy ∙ ap (λ (u : Vector). bit_value (clipped_part motion.precision u.y.0 dy)) pv in
        let wx = ax ∙ sx in
        let wy = ay ∙ sy in
        record {
          count = λ j. t.count j + kx j + ky j;
          stored = λ j. set (set (t.stored j) (2 * i) (wx j)) (2 * i + 1) (wy j);
          follows = transport (λ j. FollowsAt (e.2 j) (e.3 j) (stored_field f (4 * motion.mb.call.column + e.0 j) (4 * motion.mb.call.row + e.1 j) (e.2 j) (e.3 j) (sx j) (sy j)) near')
              (follows-stored motion.mb.within (size-follows t.follows) part.x part.y part.lies v en em);
        }
