-- Rows of 34 places, 17 of them stored at once: what a store leaves, and what a block across an edge reads in them.
-- Assumes nothing.
use mathlib.Core.Path.{◌≡◌, ap, ◌∙◌}
use mathlib.Core.Logic.{⊎_elim}
use mathlib.Core.List.{List}
use Prim.Native.Nat.{ℕ, ◌+◌, ◌-◌, ◌*◌, ◌≤◌, ◌<◌}
use native.Mathlib.Nat.{eq-or-lt_of_le, eq-zero-or-pos}
use native.Mathlib.Omega.{arith}
use lib.ListN.{length, get_or, replicate}
use Rattle.picture.specs.InnerRows.{row, run}
use Rattle.picture.proofs.Laws.{row_same, row_other}
use Rattle.compensation.specs.InnerKernel.{near, near_from, picked, picked_at, line_at, window_at, window_block, four_block, run_at, edge_at, Wide}
use Rattle.compensation.proofs.Taps.{four-taps, column-is}

-- one more
pub wide-more : {l : List ℕ} {from r : ℕ} {v : ℕ → ℕ → ℕ} → Wide l from r v → ((c : ℕ) → c < 17 → get_or l (from + r * 34 + c) 0 ≡ v r c) → Wide l from (r + 1) v
wide-more {l} {from} {r} {v} p e =
    record {
      at = λ r' c lr lc.
          let le : r' ≤ r = omega arith in
          ⊎_elim (λ q. rw q (e c lc)) (λ lt. p.at r' c lt lc) (eq-or-lt_of_le le);
    }

-- 17 stores in row r, at u
module _ (l : List ℕ) (at : ℕ) (u : ℕ → ℕ) {l' : List ℕ} (e : l' ≡ row l at u 17) where
  -- the rows before it are as they were
  pub wide-kept : {from r : ℕ} {v : ℕ → ℕ → ℕ} → from ≤ 17 → r * 34 ≤ at → Wide l from r v → Wide l' from r v
  wide-kept {from} {r} le q p = record { at = λ r' c lr lc. rw e (row_other l at u 17 (from + r' * 34 + c) 0 (λ k lk. omega arith) ∙ p.at r' c lr lc) }

  pub wide-here : (from r c : ℕ) → at ≡ r * 34 + from → at + 17 ≤ length l → c < 17 → get_or l' (from + r * 34 + c) 0 ≡ u c
  wide-here from r c q room lc =
      let i : from + r * 34 + c ≡ at + c = omega arith in
      rw (e, i) (row_same l at u 17 c 0 lc room)

  -- and so are all other places
  pub wide-there : (i : ℕ) → ((k : ℕ) → k < 17 → i ≡ at + k → ⊥) → get_or l' i 0 ≡ get_or l i 0
  wide-there i o = rw e (row_other l at u 17 i 0 o)

-- ---- the taps of a block in them
module _ (n i line : ℕ) where
  before-first : i ≤ 17 → line + 0 ≡ line + near n i
  unfolding near
  before-first le = omega arith

  one_of : 17 ≤ i → i < n + 17 → line + (i - 17) ≡ line + near n i
  unfolding near
  one_of le lt = omega arith

  past-last : n + 16 ≤ i → line + (n - 1) ≡ line + near n i
  unfolding near
  past-last le = omega arith

module _ (plane window : List ℕ) (width height bx by h : ℕ) where
  -- left of the plane
  pub wide-left : bx < 17 → 17 ≤ width → Wide window 17 h (run_at plane width height by 0) → Wide window 0 h (edge_at plane width height by 0) → Wide window bx h (window_at plane width height bx by)
  unfolding run_at edge_at window_at line_at run
  wide-left lt wide p q =
      record {
        at = λ r c lr lc.
            let line = near height (by + r) * width in
            ⊎_elim
            (λ z.
            let i : bx + r * 34 + c ≡ 0 + r * 34 + (bx + c) = omega arith in
            rw i (q.at r (bx + c) lr (omega arith) ∙ ap (λ (k : ℕ). get_or plane k 0) (before-first width (bx + c) line (omega arith))))
            (λ z.
            let i : bx + r * 34 + c ≡ 17 + r * 34 + (bx + c - 17) = omega arith in
            let n : line + 0 + (bx + c - 17) ≡ line + near width (bx + c) = omega (arith, one_of width (bx + c) line (omega arith) (omega arith)) in
            rw i (p.at r (bx + c - 17) lr (omega arith) ∙ ap (λ (k : ℕ). get_or plane k 0) n))
            (eq-zero-or-pos (bx + c - 16));
      }

  -- right of it
  pub wide-right : width < bx → bx ≤ width + 16 → 17 ≤ width → Wide window 0 h (run_at plane width height by (width - 17)) → Wide window 17 h (edge_at plane width height by (width - 1)) → Wide window (bx - width) h (window_at plane width height bx by)
  unfolding run_at edge_at window_at line_at run
  wide-right lt le wide p q =
      record {
        at = λ r c lr lc.
            let line = near height (by + r) * width in
            ⊎_elim
            (λ z.
            let i : bx - width + r * 34 + c ≡ 0 + r * 34 + (bx - width + c) = omega arith in
            let n : line + (width - 17) + (bx - width + c) ≡ line + near width (bx + c) = omega (arith, one_of width (bx + c) line (omega arith) (omega arith)) in
            rw i (p.at r (bx - width + c) lr (omega arith) ∙ ap (λ (k : ℕ). get_or plane k 0) n))
            (λ z.
            let i : bx - width + r * 34 + c ≡ 17 + r * 34 + (bx - width + c - 17) = omega arith in
            rw i (q.at r (bx - width + c - 17) lr (omega arith) ∙ ap (λ (k : ℕ). get_or plane k 0) (past-last width (bx + c) line (omega arith))))
            (eq-zero-or-pos (bx - width + c - 16));
      }

  -- neither
  pub wide-between : 17 ≤ bx → bx ≤ width → Wide window 0 h (run_at plane width height by (bx - 17)) → Wide window 0 h (window_at plane width height bx by)
  unfolding run_at window_at line_at run
  wide-between le lt p =
      record {
        at = λ r c lr lc.
            let line = near height (by + r) * width in
            let n : line + (bx - 17) + c ≡ line + near width (bx + c) = omega (arith, one_of width (bx + c) line (omega arith) (omega arith)) in
            p.at r c lr lc ∙ ap (λ (k : ℕ). get_or plane k 0) n;
      }

  -- in the columns that are listed
  pub wide-picked : {columns : List ℕ} → columns ≡ row (replicate 17 0) 0 (near_from width bx) 17 → Wide window 0 h (picked_at plane columns width height by) → Wide window 0 h (window_at plane width height bx by)
  unfolding picked_at picked window_at line_at
  wide-picked is p = record { at = λ r c lr lc. p.at r c lr lc ∙ ap (λ (k : ℕ). get_or plane (near height (by + r) * width + k) 0) (column-is width bx is c lc) }

-- ---- a block whose taps they are
pub wide-sample : (f : ℕ → ℕ → ℕ → ℕ → ℕ) (plane window : List ℕ) (width height bx by from h r c : ℕ) → Wide window from (h + 1) (window_at plane width height bx by) → r < h → c < 16 → four_block f window 34 from r c ≡ window_block f plane width height bx by r c
unfolding window_block
wide-sample f plane window width height bx by from h r c p lr lc = four-taps f window 34 from (window_at plane width height bx by) r c (λ r' c' k k'. p.at r' c' (omega arith) (omega arith))
