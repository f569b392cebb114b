-- What the answer of a reader says of the definition.
-- Assumes nothing.
use Rattle.std.specs.Prelude.{◌≡◌, ℕ, ◌+◌, Result, Ok, Err, IsErr, IsErrAnd}
use mathlib.Core.Path.{refl, sym, ap}
use native.Mathlib.Omega.{arith}
use Rattle.refusal.specs.Got.{Got, got, refused, map_got}
use Rattle.refusal.specs.Answered.{answered, reached}
use Rattle.refusal.specs.declared.Refusal.{Refusal}

-- a value was answered: the definition gives it, and the place moved by what it took
pub record Answered {X : Type 0} (at : ℕ) (g : Got X) (x : X) (next : ℕ) : Type 0 where
  pub taken : ℕ
  pub is : g ≡ got x taken
  pub moved : next ≡ at + taken

pub answered-got : {X : Type 0} (at : ℕ) (g : Got X) (x : X) (next : ℕ) → Ok (x, next) ≡ answered at g → Answered at g x next
answered-got {X = X} at (got y n) x next e =
    let p : (y, at + n) ≡ (x, next) = cc in
    record { taken = n; is = ap (λ (q : X × ℕ). got q.0 n) p; moved = sym (ap (λ (q : X × ℕ). q.1) p) }
answered-got at (refused r) x next e = absurd (let z : ◌≡◌ {A = ℕ} 0 1 = cc in omega arith)

pub answered-refused : {X : Type 0} (at : ℕ) (g : Got X) (r : Refusal) → Err r ≡ answered at g → g ≡ refused r
answered-refused at (got y n) r e = absurd (let z : ◌≡◌ {A = ℕ} 0 1 = cc in omega arith)
answered-refused at (refused q) r e = ap refused (cc)

pub reached-got : {X : Type 0} (at : ℕ) (g : Got X) (next : ℕ) → Ok next ≡ reached at g → (x : X) × Answered at g x next
reached-got at (got y n) next e = (y, record { taken = n; is = refl; moved = cc })
reached-got at (refused r) next e = absurd (let z : ◌≡◌ {A = ℕ} 0 1 = cc in omega arith)

pub reached-refused : {X : Type 0} (at : ℕ) (g : Got X) (r : Refusal) → Err r ≡ reached at g → g ≡ refused r
reached-refused at (got y n) r e = absurd (let z : ◌≡◌ {A = ℕ} 0 1 = cc in omega arith)
reached-refused at (refused q) r e = ap refused (cc)

-- a value read from what was answered, whatever was answered
pub answered-map : {X Y : Type 0} (f : X → Y) (at : ℕ) (g : Got X) (x : X) (next : ℕ) → Ok (x, next) ≡ answered at g → Ok (f x, next) ≡ answered at (map_got f g)
answered-map f at g x next e = go (answered-got at g x next e)
  where
    go : Answered at g x next → Ok (f x, next) ≡ answered at (map_got f g)
    go a = rw (a.is, a.moved)

pub refused-map : {X Y : Type 0} (f : X → Y) (at : ℕ) (g : Got X) (r : Refusal) → Err r ≡ answered at g → Err r ≡ answered at (map_got f g)
refused-map f at g r e = rw (answered-refused at g r e)

-- a `?` returns the refusal that it meets
pub handed : {X : Type 0} (r : Result X Refusal) (why : Refusal) → IsErr r × IsErrAnd r (λ q. q ≡ why) → r ≡ Err why
handed (Ok x) why k = absurd k.1
handed (Err q) why k = ap Err k.1
