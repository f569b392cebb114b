-- What the answer of a reader of levels says of the definition, and the other way round.
-- Assumes nothing.
use mathlib.Core.Path.{◌≡◌, refl, sym, ap, ◌∙◌}
use mathlib.Core.List.{List}
use Prim.Native.Nat.{ℕ, ◌+◌}
use native.Mathlib.Omega.{arith}
use lib.IntN.{ℤ}
use Rattle.refusal.specs.Got.{Got, got, refused}
use Rattle.refusal.specs.declared.Refusal.{Refusal}
use Rattle.refusal.proofs.Formats.{got-value, never}
use Rattle.std.specs.Prelude.{Ok, Err}
use Rattle.levels.specs.InnerAnswers.{Left}

-- it ended: the levels read are those left, and the place moved by what they took
pub record Ended (at : ℕ) (read : Got (List ℤ)) (next : ℕ) (left : List ℤ) : Type 0 where
  pub taken : ℕ
  pub is : read ≡ got left taken
  pub moved : next ≡ at + taken

pub ended : (at : ℕ) (read : Got (List ℤ)) (next : ℕ) (left : List ℤ) → Left at read (Ok next) left → Ended at read next left
ended at (got ls n) next left l = record { taken = n; is = ap (λ (x : List ℤ). got x n) (sym (l.leaves ls n refl)); moved = (let e = l.answers in cc) }
ended at (refused r) next left l = absurd (let e = l.answers in let z : ◌≡◌ {A = ℕ} 0 1 = cc in omega arith)

-- it was refused
pub refused-by : (at : ℕ) (read : Got (List ℤ)) (r : Refusal) (left : List ℤ) → Left at read (Err r) left → read ≡ refused r
refused-by at (got ls n) r left l = absurd (let e = l.answers in let z : ◌≡◌ {A = ℕ} 0 1 = cc in omega arith)
refused-by at (refused q) r left l = ap refused (let e = l.answers in cc)

-- and the other way round
pub left_end : (at : ℕ) (read : Got (List ℤ)) (next n : ℕ) (left : List ℤ) → read ≡ got left n → next ≡ at + n → Left at read (Ok next) left
left_end at read next n left e m = record { answers = rw (e, m); leaves = λ ls k f. got-value (sym e ∙ f) }

pub left-refused : (at : ℕ) (read : Got (List ℤ)) (r : Refusal) (left : List ℤ) → read ≡ refused r → Left at read (Err r) left
left-refused at read r left e = record { answers = rw e; leaves = λ ls k f. never (sym e ∙ f) }
