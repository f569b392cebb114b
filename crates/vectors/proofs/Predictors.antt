-- Laws of the prediction: how many neighbours there are, and where a held predictor lies.
-- Assumes nothing.
use mathlib.Core.Path.{ap, ◌≡◌, refl, ◌∙◌}
use mathlib.Core.Bool.{Bool, true, false, ◌||◌}
use Prim.Native.Nat.{ℕ, ◌+◌, ◌-◌, ◌*◌, ◌≤◌, ◌<◌, zero-le}
use native.Mathlib.Omega.{arith}
use borrow.Author.Tests.{lt-ltb, le-ltb}
use lib.Dec.{eqb}
use lib.ListN.{get_or}
use lib.IntN.{ℤ, pos, nat_abs, ◌+ℤ◌, ◌-ℤ◌}
use mir.Val.{bool_byte}
use Rattle.ints.specs.Z.{when◌then◌else◌, clamp_z}
use Rattle.ints.proofs.Fits.{if_yes, if_no}
use Rattle.std.proofs.lemmas.Int.{ints}
use Rattle.ints.proofs.Linear.{diff-z, abs-z, mag-z}
use Rattle.ints.proofs.Laws.{clamp-low, clamp-high}
use Rattle.vectors.specs.InnerWindow.{shown_at}
use Rattle.vectors.specs.declared.window.Neighbours.{Neighbours}
use Rattle.vectors.specs.Predict.{vector, present, or_else, vector_of, median_of, combined, held_in}
use Rattle.vectors.specs.declared.svq3_frame.Vector.{Vector}
use Rattle.vectors.proofs.Tests.{neither}
use Rattle.std.specs.Prelude.{Option, Some, None, is_some}
use Rattle.std.specs.Option.{UnwrapsOrElse}

-- ---- a vector, or vector 0 where it is missing
pub or-zero : (a : Option Vector) (v : Vector) → UnwrapsOrElse a (λ u. (u.x.0 ≡ pos 0) × (u.y.0 ≡ pos 0)) v → v ≡ vector_of a
or-zero None v e = λ i. vector (e.0 i) (e.1 i)
or-zero (Some u) v e = e

-- ---- how many
pub counted : (a : Option Vector) {t : Bool} {n : ℕ} → t ≡ is_some a → n ≡ bool_byte t → n ≡ present a
counted None e f = f ∙ ap bool_byte e
counted (Some v) e f = f ∙ ap bool_byte e

module _ (a b c : Option Vector) {l m n : ℕ} (p : l ≡ present a) (q : m ≡ present b) (r : n ≡ present c) where
  pub few : l + m + n < 2 → combined a b c ≡ vector_of (or_else a (or_else b c))
  unfolding combined
  few h = if_yes _ _ _ (lt-ltb (present a + present b + present c) 2 (omega arith))

  pub several : 2 ≤ l + m + n → combined a b c ≡ median_of (vector_of a) (vector_of b) (vector_of c)
  unfolding combined
  several h = if_no _ _ _ (le-ltb (present a + present b + present c) 2 (omega arith))

-- ---- of cells by their marks
module _ (n : Neighbours) where
  -- C, or D where C is marked 0
  pub third : (c d : ℕ) → shown_at n (when eqb (get_or n.marks c 0) 0 then d else c) ≡ or_else (shown_at n c) (shown_at n d)
  unfolding shown_at when◌then◌else◌
  third c d = go (eqb (get_or n.marks c 0) 0) refl
    where
      go : (t : Bool) → eqb (get_or n.marks c 0) 0 ≡ t → shown_at n (when t then d else c) ≡ or_else (shown_at n c) (shown_at n d)
      go true e = rw e refl
      go false e = rw e refl

  -- none of three is marked 0
  abbrev at : ℕ → Vector
  at i = get_or n.vectors i (vector (pos 0) (pos 0))

  cell-here : (i : ℕ) → eqb (get_or n.marks i 0) 0 ≡ false → shown_at n i ≡ Some (at i)
  unfolding shown_at
  cell-here i e = if_no _ _ _ e

  pub all_here : (a b c : ℕ) → ((eqb (get_or n.marks a 0) 0 || eqb (get_or n.marks b 0) 0) || eqb (get_or n.marks c 0) 0) ≡ false → combined (shown_at n a) (shown_at n b) (shown_at n c) ≡ median_of (at a) (at b) (at c)
  all_here a b c e =
      let k = neither (eqb (get_or n.marks a 0) 0 || eqb (get_or n.marks b 0) 0) (eqb (get_or n.marks c 0) 0) e in
      let l = neither (eqb (get_or n.marks a 0) 0) (eqb (get_or n.marks b 0) 0) k.0 in
      (λ i. combined (cell-here a l.0 i) (cell-here b l.1 i) (cell-here c k.1 i))
      ∙ several (Some (at a)) (Some (at b)) (Some (at c)) refl refl refl (omega arith)

-- ---- held in the picture
module _ (side place span : ℕ) (p : ℤ) (h : place + span ≤ side) where
  pub held-size : side ≤ 65536 → nat_abs (held_in side place span p) ≤ 393216
  unfolding held_in
  held-size k =
      let hi = pos (6 * (side - span)) in
      let z = pos (6 * place) +ℤ p in
      let low = clamp-low (pos 0) hi z (le-ltb (6 * (side - span)) 0 zero-le) in
      let high = clamp-high (pos 0) hi z (le-ltb (6 * (side - span)) 0 zero-le) in
      omega (arith, ints, diff-z (clamp_z (pos 0) hi z) (pos (6 * place)), abs-z (clamp_z (pos 0) hi z -ℤ pos (6 * place)), mag-z (clamp_z (pos 0) hi z -ℤ pos (6 * place)))
