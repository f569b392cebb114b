-- A list of levels is a format: its levels determine the codes read, and reading depends on no bit behind them.
-- Assumes nothing.
use mathlib.Core.Path.{◌≡◌, refl, sym, ap, ap₂, subst, ◌∙◌}
use mathlib.Core.Bool.{Bool, true, false, cond}
use mathlib.Core.List.{List, [], ◌∷◌, ◌++◌, append_assoc, append-nil}
use Prim.Native.Nat.{ℕ, zero, suc, ◌+◌, ◌-◌, ◌≤◌, ◌<◌}
use native.Mathlib.Nat.{zero-add, add-zero}
use native.Mathlib.Numerals.{add-one}
use native.Mathlib.Omega.{arith}
use borrow.Author.Tests.{ltb-true, eqb-true, eqb-false, ne_eqb}
use lib.Dec.{ltb}
use lib.IntN.{ℤ, pos, negsuc, nat_abs}
use lib.ListN.{length, drop, length-append, length-replicate}
use lib.Seq.{drop_at}
use Rattle.refusal.specs.Got.{Got, got, refused, after, and_then, map_got}
use Rattle.refusal.specs.Format.{Came, Format}
use Rattle.refusal.specs.declared.Refusal.TheVariants.{LevelPosition}
use Rattle.refusal.proofs.Formats.{got-value, got-count, never}
use Rattle.bits.specs.Code.{code_bits, CodeRange}
use Rattle.levels.specs.Book.{positions, code_of_level}
use Rattle.levels.specs.InnerBook.{code_of}
use Rattle.levels.specs.Levels.{zeros, level_run, standing, levels_from, levels, is_zero, level_bits, LevelsCoded, LevelsRange}
use Rattle.levels.specs.declared.svq3_coeff.ResidualBook.{ResidualBook}
use Rattle.levels.specs.Book.{LevelRun}
use Rattle.std.specs.Prelude.{Some, None}
use Rattle.levels.proofs.Steps.{level-run-format}
use Rattle.levels.proofs.Froms.{from_end, from-level}

is-zero : (l : ℤ) → nat_abs l ≡ 0 → l ≡ pos 0
is-zero (pos a) e = ap pos e
is-zero (negsuc a) e = absurd (omega arith)

zeros-more : (n : ℕ) (ls : List ℤ) → zeros (n + 1) ++ ls ≡ zeros n ++ pos 0 ∷ ls
zeros-more n ls = ap (λ (k : ℕ). zeros k ++ ls) (add-one n) ∙ go n
  where
    go : (n : ℕ) → zeros (suc n) ++ ls ≡ zeros n ++ pos 0 ∷ ls
    go zero = refl
    go (suc n) = ap (λ (xs : List ℤ). pos 0 ∷ xs) (go n)

-- ---- the bits of zeros, and of a level behind zeros
module _ (book : ResidualBook) where
  bits-zeros : (run n : ℕ) → level_bits book run (zeros n) ≡ code_bits 0
  unfolding level_bits
  bits-zeros run zero = refl
  bits-zeros run (suc n) = bits-zeros (run + 1) n

  coded-zeros : (run n : ℕ) → LevelsCoded book run (zeros n)
  unfolding LevelsCoded
  coded-zeros run zero = tt
  coded-zeros run (suc n) = coded-zeros (run + 1) n

  module _ (l : ℤ) (ls : List ℤ) (some : 0 < nat_abs l) where
    bits-level : (run r : ℕ) → level_bits book run (zeros r ++ l ∷ ls) ≡ code_bits (code_of_level book l (run + r)) ++ level_bits book 0 ls
    unfolding level_bits
    bits-level run zero = rw (ne_eqb (nat_abs l) 0 (omega arith), add-zero run)
    bits-level run (suc r) = bits-level (run + 1) r ∙ ap (λ (k : ℕ). code_bits (code_of_level book l k) ++ level_bits book 0 ls) (omega arith)

    coded-level : (run r : ℕ) → CodeRange (code_of_level book l (run + r)) → LevelsCoded book 0 ls → LevelsCoded book run (zeros r ++ l ∷ ls)
    unfolding LevelsCoded
    coded-level run zero h c = rw (ne_eqb (nat_abs l) 0 (omega arith)) (subst (λ (k : ℕ). CodeRange (code_of_level book l k)) (add-zero run) h, c)
    coded-level run (suc r) h c = coded-level (run + 1) r (subst (λ (k : ℕ). CodeRange (code_of_level book l k)) {x = run + suc r} {y = run + 1 + r} (omega arith) h) c

  -- ---- what is written is read
  abbrev Reads : List ℤ → Type 0
  Reads ls =
      (turns position run : ℕ) (rest : List Bool) → position + run + length ls ≡ positions book → positions book ≤ position + turns → LevelsCoded book run ls
      → levels_from book turns position (level_bits book run ls ++ rest) ≡ got (zeros run ++ ls) (length (level_bits book run ls))

  -- a level that is not 0: its code is read, and the list goes on behind it
  reads-level : (l : ℤ) (ls : List ℤ) (turns position run : ℕ) (rest : List Bool) → position + run + length (l ∷ ls) ≡ positions book → positions book ≤ position + turns
      → 0 < nat_abs l → CodeRange (code_of_level book l run) → LevelsCoded book 0 ls → Reads ls
      → levels_from book turns position ((code_bits (code_of_level book l run) ++ level_bits book 0 ls) ++ rest) ≡ got (zeros run ++ l ∷ ls) (length (code_bits (code_of_level book l run) ++ level_bits book 0 ls))
  unfolding code_of
  reads-level l ls zero position run rest e t some k c next = absurd (omega arith)
  reads-level l ls (suc turns) position run rest e t some k c next =
      let w = code_bits (code_of_level book l run) in
      let s = level_bits book 0 ls ++ rest in
      let a : (w ++ level_bits book 0 ls) ++ rest ≡ w ++ s = append_assoc w (level_bits book 0 ls) rest in
      let f = from-level book position (w ++ s) turns (length w) l run ((level-run-format book).reads (Some (l, run)) s (some, omega arith, k)) (omega arith) in
      let d : drop (length w) (w ++ s) ≡ s = drop_at w s (length w) refl in
      let n = next turns (position + run + 1) 0 rest (omega arith) (omega arith) c in
      rw (a, f, d, n, length-append w (level_bits book 0 ls))

  reads-cons : (l : ℤ) (ls : List ℤ) → Reads ls → Reads (l ∷ ls)
  unfolding level_bits LevelsCoded
  reads-cons l ls next turns position run rest e t c = go (is_zero l) refl c
    where
      go : (z : Bool) → is_zero l ≡ z → cond z (LevelsCoded book (run + 1) ls) (CodeRange (code_of_level book l run) × LevelsCoded book 0 ls)
          → levels_from book turns position (cond z (level_bits book (run + 1) ls) (code_bits (code_of_level book l run) ++ level_bits book 0 ls) ++ rest)
          ≡ got (zeros run ++ l ∷ ls) (length (cond z (level_bits book (run + 1) ls) (code_bits (code_of_level book l run) ++ level_bits book 0 ls)))
      go true z c =
          next turns position (run + 1) rest (omega arith) t c ∙
          ap (λ (xs : List ℤ). got xs (length (level_bits book (run + 1) ls))) (zeros-more run ls ∙ ap (λ (x : ℤ). zeros run ++ x ∷ ls) (sym (is-zero l (eqb-true (nat_abs l) 0 z))))
      go false z c = reads-level l ls turns position run rest e t (omega (arith, eqb-false (nat_abs l) 0 z)) c.0 c.1 next

  reads-from : (ls : List ℤ) → Reads ls
  unfolding level_bits code_of
  reads-from [] turns position run rest e t c =
      from_end book position (code_bits 0 ++ rest) turns (length (code_bits 0)) ((level-run-format book).reads None rest tt) ∙
      ap₂ got (ap zeros {x = positions book - position} {y = run} (omega arith) ∙ sym (append-nil (zeros run))) (add-zero (length (code_bits 0)))
  reads-from (l ∷ ls) turns position run rest e t c = reads-cons l ls (reads-from ls) turns position run rest e t c

  -- ---- what is read was written
  abbrev Written : (ℕ → List Bool → Got (List ℤ)) → Type 0
  Written next = (position : ℕ) (s : List Bool) (ls : List ℤ) (n : ℕ) → position ≤ positions book → next position s ≡ got ls n → Came (level_bits book 0) (LevelsRange book position) s ls n

  -- by what the code at the position says
  came-next : (next : ℕ → List Bool → Got (List ℤ)) → Written next → Written (λ position s. and_then (level_run book s) s (λ found rest. standing (positions book) position found (λ p. next p rest)))
  unfolding code_of
  came-next next more position s ls n b e = go (level_run book s) refl e
    where
      behind : (l : ℤ) (r m : ℕ) → level_run book s ≡ got (Some (l, r)) m → position + r < positions book → (a : Got (List ℤ)) → next (position + r + 1) (drop m s) ≡ a
          → after m (map_got (λ ls. zeros r ++ l ∷ ls) a) ≡ got ls n → Came (level_bits book 0) (LevelsRange book position) s ls n
      behind l r m h g (refused x) f e = never e
      behind l r m h g (got ms k) f e =
          let c = (level-run-format book).came s (Some (l, r)) m h in
          let d = more (position + r + 1) (drop m s) ms k (omega arith) f in
          let w = code_bits (code_of_level book l r) in
          let v = level_bits book 0 ms in
          let u : level_bits book 0 (zeros r ++ l ∷ ms) ≡ w ++ v = bits-level l ms c.in_range.0 0 r ∙ ap (λ (i : ℕ). code_bits (code_of_level book l i) ++ v) (zero-add r) in
          let is : s ≡ (w ++ v) ++ d.starts.rest =
          c.starts.is ∙ ap (λ (t : List Bool). w ++ t) (sym (drop_at w c.starts.rest m (sym c.taken)) ∙ ap (drop m) (sym c.starts.is) ∙ d.starts.is) ∙ sym (append_assoc w v d.starts.rest) in
          let size : length (zeros r ++ l ∷ ms) ≡ positions book - position = omega (arith, length-append (zeros r) (l ∷ ms), length-replicate r (pos 0), d.in_range.count) in
          let coded = coded-level l ms c.in_range.0 0 r (subst (λ (i : ℕ). CodeRange (code_of_level book l i)) (sym (zero-add r)) c.in_range.2) d.in_range.coded in
          subst (λ (xs : List ℤ). Came (level_bits book 0) (LevelsRange book position) s xs n) (got-value e)
          (record {
            in_range = record { count = size; coded = coded };
            starts = record { rest = d.starts.rest; is = rw u is };
            taken = sym (got-count e) ∙ rw u (omega (arith, c.taken, d.taken, length-append w v));
          })

      placed : (l : ℤ) (r m : ℕ) → level_run book s ≡ got (Some (l, r)) m → (t : Bool) → ltb (position + r) (positions book) ≡ t
          → after m (cond t (map_got (λ ls. zeros r ++ l ∷ ls) (next (position + r + 1) (drop m s))) (refused (LevelPosition (position + r)))) ≡ got ls n
          → Came (level_bits book 0) (LevelsRange book position) s ls n
      placed l r m h true g e = behind l r m h (ltb-true (position + r) (positions book) g) (next (position + r + 1) (drop m s)) refl e
      placed l r m h false g e = never e

      go : (a : Got LevelRun) → level_run book s ≡ a → and_then a s (λ found rest. standing (positions book) position found (λ p. next p rest)) ≡ got ls n
          → Came (level_bits book 0) (LevelsRange book position) s ls n
      go (refused x) h e = never e
      go (got None m) h e =
          let c = (level-run-format book).came s None m h in
          let k = positions book - position in
          let u = bits-zeros 0 k in
          subst (λ (xs : List ℤ). Came (level_bits book 0) (LevelsRange book position) s xs n) (got-value e)
          (record {
            in_range = record { count = length-replicate k (pos 0); coded = coded-zeros 0 k };
            starts = record { rest = c.starts.rest; is = rw u c.starts.is };
            taken = sym (got-count e) ∙ rw u (omega (arith, c.taken));
          })
      go (got (Some (l, r)) m) h e = placed l r m h (ltb (position + r) (positions book)) refl e

  came_from : (turns : ℕ) → Written (levels_from book turns)
  unfolding levels_from
  came_from zero = came-next (λ p s. refused (LevelPosition p)) (λ p s ls n b e. never e)
  came_from (suc turns) = came-next (levels_from book turns) (came_from turns)

-- UNIQUE READING of a list of levels
pub list-format : (book : ResidualBook) (start : ℕ) → start ≤ positions book → Format (levels book start) (level_bits book 0) (LevelsRange book start)
unfolding levels
list-format book start h =
    record {
      reads = λ ls rest r. reads-from book ls (positions book) start 0 rest (omega (arith, r.count)) (omega arith) r.coded;
      came = λ s ls n e. came_from book (positions book) start s ls n h e;
    }
