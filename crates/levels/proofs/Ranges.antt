-- What a list may hold, and what it may be refused with.
-- Assumes nothing.
use mathlib.Core.Path.{◌≡◌, refl, sym, ap, subst, ◌∙◌}
use mathlib.Core.Bool.{Bool, true, false, cond}
use mathlib.Core.List.{List, [], ◌∷◌, ◌++◌}
use Prim.Native.Nat.{ℕ, zero, suc, ◌+◌, ◌*◌, ◌≤◌, ◌<◌}
use native.Mathlib.Omega.{arith}
use borrow.Author.Tests.{ltb-true, ltb-false, eqb-true, eqb-false}
use lib.Dec.{eqb, ltb}
use lib.IntN.{ℤ, pos, nat_abs}
use lib.ListN.{length, get_or, drop, length-drop, take-append-drop}
use Rattle.refusal.specs.Got.{Got, got, refused, after, and_then, map_got}
use Rattle.refusal.specs.declared.Refusal.{Refusal}
use Rattle.refusal.specs.declared.Refusal.TheVariants.{Truncated, BadBitWidth, LevelPosition}
use Rattle.bits.specs.Code.{bit_value, code_from, code, CodeRange}
use Rattle.levels.specs.Lists.{place_of}
use Rattle.levels.specs.Book.{positions, level, run, resolve, code_of_level}
use Rattle.levels.specs.Scan.{scan, raster, unraster}
use Rattle.levels.specs.Levels.{zeros, level_run, standing, levels_from, levels, is_zero, LevelsCoded, block}
use Rattle.levels.specs.declared.svq3_coeff.ResidualBook.{ResidualBook}
use Rattle.levels.specs.Book.{LevelRun}
use Rattle.std.specs.Prelude.{Some, None}
use Rattle.levels.proofs.Books.{most, level-most, resolve-code}
use Rattle.levels.proofs.Rasters.{raster-at, raster-unraster, length-unraster}
use Rattle.levels.proofs.Steps.{level-run-format}
use Rattle.levels.proofs.Blocks.{block-format}

-- ---- levels
-- the level that a code says is the book's level of that code
same-level : (book : ResidualBook) (l : ℤ) (r k : ℕ) → 0 < k → resolve book k ≡ Some (l, r) → level book k ≡ l
unfolding resolve
same-level book l r k h e = go (eqb k 0) refl e
  where
    go : (t : Bool) → eqb k 0 ≡ t → cond {A = LevelRun} t None (Some (level book k, run book k)) ≡ Some (l, r) → level book k ≡ l
    go true z e = absurd (omega (arith, eqb-true k 0 z))
    go false z e = let p : (level book k, run book k) ≡ (l, r) = cc in ap (λ (q : ℤ × ℕ). q.0) p

end-no-pair : (l : ℤ) (r : ℕ) → ◌≡◌ {A = LevelRun} None (Some (l, r)) → ⊥
end-no-pair l r e = let z : ◌≡◌ {A = ℕ} 0 1 = cc in omega arith

coded-level-most : (book : ResidualBook) (l : ℤ) (r : ℕ) → 0 < nat_abs l → r < positions book → CodeRange (code_of_level book l r) → nat_abs l ≤ most book
unfolding resolve
coded-level-most book l r s h k = go (code_of_level book l r) k (resolve-code book l r s h)
  where
    go : (c : ℕ) → CodeRange c → resolve book c ≡ Some (l, r) → nat_abs l ≤ most book
    go zero b e = absurd (end-no-pair l r e)
    go (suc c) b e = subst (λ (z : ℤ). nat_abs z ≤ most book) (same-level book l r (suc c) (omega arith) e) (level-most book (suc c) b)

-- each level of a coded list
levels-most : (book : ResidualBook) (ls : List ℤ) (run : ℕ) → LevelsCoded book run ls → run + length ls ≤ positions book → (i : ℕ) → nat_abs (get_or ls i (pos 0)) ≤ most book
unfolding LevelsCoded
levels-most book [] run c h i = omega arith
levels-most book (l ∷ ls) run c h i = go (is_zero l) refl c i (λ c. levels-most book ls (run + 1) c (omega arith)) (λ c. levels-most book ls 0 c (omega arith))
  where
    go : (z : Bool) → is_zero l ≡ z → cond z (LevelsCoded book (run + 1) ls) (CodeRange (code_of_level book l run) × LevelsCoded book 0 ls) → (i : ℕ)
        → (LevelsCoded book (run + 1) ls → (i : ℕ) → nat_abs (get_or ls i (pos 0)) ≤ most book) → (LevelsCoded book 0 ls → (i : ℕ) → nat_abs (get_or ls i (pos 0)) ≤ most book)
        → nat_abs (get_or (l ∷ ls) i (pos 0)) ≤ most book
    go true z c zero f g = omega (arith, eqb-true (nat_abs l) 0 z)
    go true z c (suc i) f g = f c i
    go false z c zero f g = coded-level-most book l run (omega (arith, eqb-false (nat_abs l) 0 z)) (omega arith) c.0
    go false z c (suc i) f g = g c.1 i

-- and of a block, whatever its bits
behind-zeros : (n m : ℕ) (ls : List ℤ) → ((i : ℕ) → nat_abs (get_or ls i (pos 0)) ≤ m) → (i : ℕ) → nat_abs (get_or (zeros n ++ ls) i (pos 0)) ≤ m
behind-zeros zero m ls f i = f i
behind-zeros (suc n) m ls f zero = omega arith
behind-zeros (suc n) m ls f (suc i) = behind-zeros n m ls f i

pub block-most : (book : ResidualBook) (start : ℕ) (s : List Bool) (bs : List ℤ) (n : ℕ) → start ≤ positions book → block book start s ≡ got bs n → (p : ℕ) → p < positions book → nat_abs (get_or bs p (pos 0)) ≤ most book
block-most book start s bs n h e p b =
    let c = ((block-format book start h).came s bs n e).in_range in
    let ls = drop start (unraster book bs) in
    let w : unraster book bs ≡ zeros start ++ ls = sym (take-append-drop start (unraster book bs)) ∙ ap (λ (xs : List ℤ). xs ++ ls) c.before in
    let i : get_or bs p (pos 0) ≡ get_or (zeros start ++ ls) (place_of p (scan book)) (pos 0) =
    sym (ap (λ (xs : List ℤ). get_or xs p (pos 0)) (raster-unraster book bs c.count)) ∙ raster-at book (unraster book bs) p b ∙ ap (λ (xs : List ℤ). get_or xs (place_of p (scan book)) (pos 0)) w in
    rw i (behind-zeros start (most book) ls (levels-most book ls 0 c.coded (omega (arith, length-drop start (unraster book bs), length-unraster book bs))) (place_of p (scan book)))

-- ---- refusals
-- bits that end within a code, a code of more than 31 data bits, or a level past the end: its position is at most a run past the last
pub data Refuses (book : ResidualBook) : Refusal → Type 0 where
  cut : Refuses book Truncated
  long : Refuses book (BadBitWidth 32)
  past : {p : ℕ} → positions book ≤ p → p < 2 * positions book → Refuses book (LevelPosition p)

never-refused : {X A : Type 0} {x : X} {n : ℕ} {r : Refusal} → got x n ≡ refused r → A
never-refused e = absurd (let z : ◌≡◌ {A = ℕ} 0 1 = cc in omega arith)

refused-same : {X : Type 0} {r x : Refusal} → ◌≡◌ {A = Got X} (refused r) (refused x) → r ≡ x
refused-same e = cc

after-refused : {X : Type 0} (n : ℕ) (g : Got X) (x : Refusal) → after n g ≡ refused x → g ≡ refused x
after-refused n (got y m) x e = never-refused e
after-refused n (refused r) x e = e

map-refused : {X Y : Type 0} (f : X → Y) (g : Got X) (x : Refusal) → map_got f g ≡ refused x → g ≡ refused x
map-refused f (got y m) x e = never-refused e
map-refused f (refused r) x e = ap refused (refused-same e)

module _ (book : ResidualBook) where
  code-refuses : (room m : ℕ) (s : List Bool) (x : Refusal) → code_from room m s ≡ refused x → Refuses book x
  unfolding code_from
  code-refuses room m [] x e = subst (Refuses book) (refused-same e) cut
  code-refuses room m (true ∷ s) x e = never-refused e
  code-refuses zero m (false ∷ s) x e = subst (Refuses book) (refused-same e) long
  code-refuses (suc room) m (false ∷ []) x e = subst (Refuses book) (refused-same e) cut
  code-refuses (suc room) m (false ∷ d ∷ s) x e = code-refuses room (2 * m + bit_value d) s x (after-refused 2 (code_from room (2 * m + bit_value d) s) x e)

  -- by what the code at the position says
  refuses-next : (position : ℕ) (s : List Bool) (x : Refusal) (next : ℕ → List Bool → Got (List ℤ)) → position ≤ positions book
      → ((p : ℕ) (t : List Bool) → position < p → p ≤ positions book → next p t ≡ refused x → Refuses book x)
      → and_then (level_run book s) s (λ found rest. standing (positions book) position found (λ p. next p rest)) ≡ refused x → Refuses book x
  unfolding level_run code
  refuses-next position s x next h more e = go (level_run book s) refl e
    where
      placed : (l : ℤ) (r m : ℕ) → r < positions book → (t : Bool) → ltb (position + r) (positions book) ≡ t
          → cond t (map_got (λ ls. zeros r ++ l ∷ ls) (next (position + r + 1) (drop m s))) (refused (LevelPosition (position + r))) ≡ refused x → Refuses book x
      placed l r m b true g e = more (position + r + 1) (drop m s) (omega arith) (omega (arith, ltb-true (position + r) (positions book) g)) (map-refused (λ ls. zeros r ++ l ∷ ls) (next (position + r + 1) (drop m s)) x e)
      placed l r m b false g e = subst (Refuses book) (refused-same e) (past (ltb-false (position + r) (positions book) g) (omega arith))

      go : (a : Got LevelRun) → level_run book s ≡ a → and_then a s (λ found rest. standing (positions book) position found (λ p. next p rest)) ≡ refused x → Refuses book x
      go (refused r) f e = code-refuses 31 1 s x (map-refused (resolve book) (code_from 31 1 s) x (f ∙ ap refused (refused-same e)))
      go (got None m) f e = never-refused e
      go (got (Some (l, r)) m) f e =
          placed l r m ((level-run-format book).came s (Some (l, r)) m f).in_range.1 (ltb (position + r) (positions book)) refl
          (after-refused m (standing (positions book) position (Some (l, r)) (λ p. next p (drop m s))) x e)

  refuses-from : (turns position : ℕ) (s : List Bool) (x : Refusal) → position ≤ positions book → positions book ≤ position + turns → levels_from book turns position s ≡ refused x → Refuses book x
  unfolding levels_from
  refuses-from zero position s x h t e = refuses-next position s x (λ p s. refused (LevelPosition p)) h (λ p u a b g. absurd (omega arith)) e
  refuses-from (suc turns) position s x h t e = refuses-next position s x (levels_from book turns) h (λ p u a b g. refuses-from turns p u x b (omega arith) g) e

-- all that a block is refused with
pub block-refuses : (book : ResidualBook) (start : ℕ) (s : List Bool) (x : Refusal) → start ≤ positions book → block book start s ≡ refused x → Refuses book x
unfolding block levels
block-refuses book start s x h e = refuses-from book (positions book) start s x h (omega arith) (map-refused (λ ls. raster book (zeros start ++ ls)) (levels_from book (positions book) start s) x e)
