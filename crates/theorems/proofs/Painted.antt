-- A plane after a rectangle of it was written, or a block of residuals added: at one place, and outside a larger rectangle.
-- Assumes nothing.
use mathlib.Core.Path.{◌≡◌, refl, sym, ap, ◌∙◌}
use mathlib.Core.Logic.{◌≢◌, ⊎_elim}
use mathlib.Core.Bool.{Bool, true, false, ◌&&◌, true≢false}
use mathlib.Core.List.{List}
use Prim.Native.Nat.{ℕ, zero, suc, ◌+◌, ◌-◌, ◌*◌, ◌/◌, ◌%◌, ◌≤◌, ◌<◌}
use native.Mathlib.Nat.{add_assoc, le_refl, le_trans, eq-or-lt_of_le, le_of_suc-le-suc}
use native.Mathlib.Omega.{arith}
use borrow.Author.Tests.{ltb-true, ltb-false}
use lib.Arith.{digits_div, digits_mod}
use lib.Dec.{ltb}
use lib.IntN.{ℤ, pos, ◌+ℤ◌}
use lib.ListN.{length, get_or, get_or-eq_default}
use Rattle.ints.specs.Z.{when◌then◌else◌, clip1_z}
use Rattle.picture.specs.Painted.{within, inside, painted, Inside}
use Rattle.picture.specs.Picture.{seen, copied}
use Rattle.picture.proofs.Laws.{more, each_at_lem, both_true, within-true, within_in, painted-length, painted-other}
use Rattle.transform.specs.Added.{reconstructed, added}
use Rattle.theorems.specs.Outside.{Outside}

-- ---- tests

-- what holds of both holds of the one that a test takes
pub by-test : {A : Type 0} (P : A → Type 0) (t : Bool) {a b : A} → P a → P b → P (when t then a else b)
unfolding when◌then◌else◌
by-test P true p q = p
by-test P false p q = q

-- at a place of one of two planes
pub if-at : (t u : Bool) (l m : List ℕ) (k : ℕ) {v : ℕ} → t ≡ u → get_or m k 0 ≡ v → get_or (when t then m else l) k 0 ≡ (when u then v else get_or l k 0)
unfolding when◌then◌else◌
if-at true u l m k e p = rw (← e) p
if-at false u l m k e p = rw (← e) refl

not-true : (t : Bool) → (t ≡ true → ⊥) → t ≡ false
not-true true h = absurd (h refl)
not-true false h = refl

-- ---- rectangles of w × h places from column x of row y on

-- column X of row Y lies in one
pub record Among (x y w h X Y : ℕ) : Type 0 where
  pub left : x ≤ X
  pub right : X < x + w
  pub top : y ≤ Y
  pub bottom : Y < y + h

-- another lies in it
pub record Covers (x y w h x' y' w' h' : ℕ) : Type 0 where
  pub left : x ≤ x'
  pub right : x' + w' ≤ x + w
  pub top : y ≤ y'
  pub bottom : y' + h' ≤ y + h

pub covers-itself : (x y w h : ℕ) → Covers x y w h x y w h
covers-itself x y w h = record { left = le_refl x; right = le_refl (x + w); top = le_refl y; bottom = le_refl (y + h) }

pub among-larger : {x y w h x' y' w' h' X Y : ℕ} → Covers x y w h x' y' w' h' → Among x' y' w' h' X Y → Among x y w h X Y
among-larger c a = record { left = le_trans c.left a.left; right = le_trans a.right c.right; top = le_trans c.top a.top; bottom = le_trans a.bottom c.bottom }

-- in one that lies in a plane
pub place-fits : {s x y w h size X Y : ℕ} → Inside s x y w h size → Among x y w h X Y → (X < s) × (Y * s + X < size)
place-fits {s} {x} {y} {w} {h} {size} {X} {Y} i a =
    let m : Y * s + s ≤ (y + h) * s = more s a.bottom in
    (omega (arith, i.across, a.right), omega (arith, i.across, i.down, a.right))

-- the test, both ways
among-true : (s x y w h k : ℕ) → inside s x y w h k ≡ true → Among x y w h (k % s) (k / s)
unfolding inside
among-true s x y w h k e =
    let t = both_true (within x w (k % s)) (within y h (k / s)) e in
    let tx = within-true x w (k % s) t.0 in
    let ty = within-true y h (k / s) t.1 in
    record { left = tx.0; right = tx.1; top = ty.0; bottom = ty.1 }

true-among : (s x y w h k : ℕ) → Among x y w h (k % s) (k / s) → inside s x y w h k ≡ true
unfolding inside
true-among s x y w h k a = λ i. within_in x w (k % s) a.left a.right i && within_in y h (k / s) a.top a.bottom i

-- ---- outside one
module _ {A : Type 0} where
  -- past the end of both lists there is nothing to differ
  painted-others : (s x y w h : ℕ) (v : ℕ → ℕ → A) (l : List A) (k : ℕ) (d : A) → inside s x y w h k ≡ false → get_or (painted s x y w h v l) k d ≡ get_or l k d
  painted-others s x y w h v l k d e = go (ltb k (length l)) refl
    where
      go : (t : Bool) → ltb k (length l) ≡ t → get_or (painted s x y w h v l) k d ≡ get_or l k d
      go true q = painted-other s x y w h v l k d (ltb-true k (length l) q) e
      go false q =
          get_or-eq_default (painted s x y w h v l) d {n = k} (omega (arith, ltb-false k (length l) q, painted-length s x y w h v l))
          ∙ sym (get_or-eq_default l d {n = k} (omega (arith, ltb-false k (length l) q)))

  pub outside-same : {s x y w h : ℕ} (l : List A) → Outside s x y w h l l
  outside-same l = record { size = refl; same = λ k d e. refl }

  pub outside-then : {s x y w h : ℕ} {l m n : List A} → Outside s x y w h l m → Outside s x y w h m n → Outside s x y w h l n
  outside-then p q = record { size = q.size ∙ p.size; same = λ k d e. q.same k d e ∙ p.same k d e }

  pub outside-painted : {s x y w h x' y' w' h' : ℕ} (v : ℕ → ℕ → A) (l : List A) → Covers x y w h x' y' w' h' → Outside s x y w h l (painted s x' y' w' h' v l)
  outside-painted {s} {x} {y} {w} {h} {x'} {y'} {w'} {h'} v l c = record {
    size = painted-length s x' y' w' h' v l;
    same = λ k d e. painted-others s x' y' w' h' v l k d (not-true (inside s x' y' w' h' k) (λ q.
        true≢false (sym (true-among s x y w h k (among-larger c (among-true s x' y' w' h' k q))) ∙ e)));
  }

-- ---- at column X of row Y
module _ {A : Type 0} (s x y w h : ℕ) (v : ℕ → ℕ → A) (l : List A) (X Y : ℕ) (d : A) (wide : X < s) where
  at-column : (Y * s + X) % s ≡ X
  at-column = digits_mod Y {m = s} {r = X} wide

  at_row : (Y * s + X) / s ≡ Y
  at_row = digits_div Y {m = s} {r = X} wide

  pub painted-here : Y * s + X < length l → Among x y w h X Y → get_or (painted s x y w h v l) (Y * s + X) d ≡ v (Y - y) (X - x)
  unfolding painted
  painted-here fits a =
      let t : inside s x y w h (Y * s + X) ≡ true = true-among s x y w h (Y * s + X) (rw (at-column, at_row) a) in
      each_at_lem _ l (Y * s + X) d fits ∙ rw (t, at-column, at_row)

  pub painted-elsewhere : (Among x y w h X Y → ⊥) → get_or (painted s x y w h v l) (Y * s + X) d ≡ get_or l (Y * s + X) d
  painted-elsewhere o =
      painted-others s x y w h v l (Y * s + X) d (not-true (inside s x y w h (Y * s + X)) (λ q. o (rw (at-column, at_row) at (among-true s x y w h (Y * s + X) q))))

-- what is seen from (x, y) on
seen_here : (s x y : ℕ) (l : List ℕ) (X Y : ℕ) → x ≤ X → y ≤ Y → seen l s x y (Y - y) (X - x) ≡ get_or l (Y * s + X) 0
unfolding seen
seen_here s x y l X Y a b =
    let ex : x + (X - x) ≡ X = omega arith in
    let ey : y + (Y - y) ≡ Y = omega arith in
    rw (add_assoc ((y + (Y - y)) * s) x (X - x), ex, ey)

-- a copy
pub copied-here : (s x y w h : ℕ) (other l : List ℕ) (X Y : ℕ) → X < s → Y * s + X < length l → Among x y w h X Y → get_or (copied l s x y w h other) (Y * s + X) 0 ≡ get_or other (Y * s + X) 0
unfolding copied
copied-here s x y w h other l X Y wide fits a = painted-here s x y w h (seen other s x y) l X Y 0 wide fits a ∙ seen_here s x y other X Y a.left a.top

-- a block of residuals
module _ (s x y : ℕ) (residual : ℕ → ℕ → ℤ) (l : List ℕ) (X Y : ℕ) (wide : X < s) where
  pub added-here : Y * s + X < length l → Among x y 4 4 X Y → get_or (added l s x y residual) (Y * s + X) 0 ≡ clip1_z (pos (get_or l (Y * s + X) 0) +ℤ residual (Y - y) (X - x))
  unfolding added reconstructed
  added-here fits a = painted-here s x y 4 4 (reconstructed l s x y residual) l X Y 0 wide fits a ∙ rw (seen_here s x y l X Y a.left a.top)

  pub added-elsewhere : (Among x y 4 4 X Y → ⊥) → get_or (added l s x y residual) (Y * s + X) 0 ≡ get_or l (Y * s + X) 0
  unfolding added
  added-elsewhere o = painted-elsewhere s x y 4 4 (reconstructed l s x y residual) l X Y 0 wide o

-- ---- of the numbers P 0, P 1, .. P N, only the step behind P m changes one
pub once : (P F : ℕ → ℕ) (m N : ℕ) → m < N → ((n : ℕ) → n < N → n ≢ m → P (suc n) ≡ P n) → P (suc m) ≡ F (P m) → P N ≡ F (P 0)
once P F m N l other here = behind N l (le_refl N)
  where
    before : (n : ℕ) → n ≤ m → P n ≡ P 0
    before zero h = refl
    before (suc n) h = other n (omega arith) (omega arith) ∙ before n (omega arith)

    behind : (n : ℕ) → m < n → n ≤ N → P n ≡ F (P 0)
    behind zero h k = absurd (omega arith)
    behind (suc n) h k =
        ⊎_elim
        (λ (e : m ≡ n). ap (λ (j : ℕ). P (suc j)) (sym e) ∙ here ∙ ap F (before m (le_refl m)))
        (λ (q : m < n). other n (omega arith) (omega arith) ∙ behind n q (omega arith))
        (eq-or-lt_of_le (le_of_suc-le-suc h))
