-- The next code of a list: what the function answers, and the format of what a code says.
-- Assumes nothing.
use mathlib.Core.Path.{◌≡◌, refl, sym, subst}
use mathlib.Core.Bool.{Bool, true, false, cond}
use Prim.Native.Nat.{ℕ, ◌<◌}
use native.Mathlib.Omega.{arith}
use borrow.Author.Tests.{eqb-false}
use lib.Dec.{eqb}
use Rattle.refusal.specs.Format.{Format}
use Rattle.refusal.proofs.Formats.{renamed}
use Rattle.bits.specs.Code.{code_bits, CodeRange}
use Rattle.bits.proofs.Unique.{code-format}
use Rattle.levels.specs.Book.{run, level, resolve}
use Rattle.levels.specs.InnerBook.{code_of, InBook}
use Rattle.levels.specs.Levels.{level_run}
use Rattle.levels.specs.declared.svq3_coeff.ResidualBook.{ResidualBook}
use Rattle.levels.specs.Book.{LevelRun}
use Rattle.std.specs.Prelude.{Some, None}
use Rattle.levels.proofs.Books.{code-of-pair, code-of-resolve, resolve-code, level-some, run-below}

-- ---- the format
in-book : (book : ResidualBook) (k : ℕ) → CodeRange k → InBook book (resolve book k)
unfolding resolve
in-book book k h = go (eqb k 0) refl
  where
    go : (t : Bool) → eqb k 0 ≡ t → InBook book (cond t None (Some (level book k, run book k)))
    go true e = tt
    go false e =
        let n : 0 < k = omega (arith, eqb-false k 0 e) in
        (level-some book k n, run-below book k, subst CodeRange (sym (code-of-pair book k n)) h)

code-range : (book : ResidualBook) (f : LevelRun) → InBook book f → CodeRange (code_of book f)
unfolding code_of
code-range book None h = omega arith
code-range book (Some (l, r)) h = h.2

resolve-of : (book : ResidualBook) (f : LevelRun) → InBook book f → resolve book (code_of book f) ≡ f
unfolding code_of resolve
resolve-of book None h = refl
resolve-of book (Some (l, r)) h = resolve-code book l r h.0 h.1

-- UNIQUE READING of what a code says
pub level-run-format : (book : ResidualBook) → Format (level_run book) (λ f. code_bits (code_of book f)) (InBook book)
unfolding level_run
level-run-format book = renamed code-format (resolve book) (code_of book) (InBook book) (in-book book) (code-range book) (resolve-of book) (λ k h. code-of-resolve book k)
