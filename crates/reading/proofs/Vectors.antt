-- The vectors of a macroblock: what reading them leaves, and that the bits read are those of the vectors where nothing was clipped.
-- Assumes nothing.
use mathlib.Core.Path.{◌≡◌, refl, sym, ◌∙◌, subst}
use mathlib.Core.Logic.{◌≢◌}
use mathlib.Core.Bool.{Bool, true, false}
use mathlib.Core.List.{List, [], ◌∷◌, ◌++◌, append_assoc}
use Prim.Native.Nat.{ℕ, zero, suc, ◌+◌, ◌*◌, ◌≤◌, ◌<◌, ◌^◌}
use native.Mathlib.Omega.{arith}
use lib.IntN.{ℤ, pos}
use lib.Signed.{mag}
use lib.ListN.{length, get_or, set, drop, length-set}
use lib.Seq.{get_or-set_same, get_or-set_other}
use Rattle.refusal.specs.Got.{got}
use Rattle.refusal.proofs.Formats.{got-value, got-count}
use Rattle.refusal.proofs.Local.{apart, Took, took-none, took-format, took-then}
use Rattle.bits.specs.Code.{bit_value}
use Rattle.bits.specs.Signed.{signed_code, signed_bits}
use Rattle.bits.proofs.SignedCode.{signed-format}
use Rattle.picture.specs.Field.{Field}
use Rattle.vectors.specs.Units.{stored_part, clipped_part}
use Rattle.vectors.proofs.Moves.{stored-fits, difference-back}
use Rattle.vectors.specs.declared.svq3_mb.Svq3MvPrecision.{Svq3MvPrecision}
use Rattle.state.specs.declared.Call.{Call}
use Rattle.reading.specs.Read.{Moving, moved, predictor_at, stored_at, read_vectors}
use Rattle.reading.specs.Bits.{vector_bits}

abbrev at : List ℤ → ℕ → ℤ
at vs j = get_or vs j (pos 0)

abbrev Fits : List ℤ → Type 0
Fits vs = (j : ℕ) → mag (at vs j) < 2 ^ 31

-- ---- two numbers put at 2 i
module _ (vs : List ℤ) (i : ℕ) (x y : ℤ) where
  put : List ℤ
  put = set (set vs (2 * i) x) (2 * i + 1) y

  put-length : length put ≡ length vs
  unfolding put
  put-length = length-set (set vs (2 * i) x) (2 * i + 1) y ∙ length-set vs (2 * i) x

  put_other : (j : ℕ) → j ≢ 2 * i → j ≢ 2 * i + 1 → at put j ≡ at vs j
  unfolding put
  put_other j p q = get_or-set_other (set vs (2 * i) x) (2 * i + 1) j y (pos 0) q ∙ get_or-set_other vs (2 * i) j x (pos 0) p

  put-x : 2 * i + 1 < length vs → at put (2 * i) ≡ x
  unfolding put
  put-x h = get_or-set_other (set vs (2 * i) x) (2 * i + 1) (2 * i) y (pos 0) (omega arith) ∙ get_or-set_same vs (2 * i) x (pos 0) (omega arith)

  put-y : 2 * i + 1 < length vs → at put (2 * i + 1) ≡ y
  unfolding put
  put-y h = get_or-set_same (set vs (2 * i) x) (2 * i + 1) y (pos 0) (rw (length-set vs (2 * i) x) h)

set-fits : (vs : List ℤ) (i : ℕ) (v : ℤ) → Fits vs → mag v < 2 ^ 31 → Fits (set vs i v)
set-fits [] i v f h j = f j
set-fits (z ∷ vs) zero v f h zero = h
set-fits (z ∷ vs) zero v f h (suc j) = f (suc j)
set-fits (z ∷ vs) (suc i) v f h zero = f zero
set-fits (z ∷ vs) (suc i) v f h (suc j) = set-fits vs i v (λ k. f (suc k)) h j

-- ---- what n partitions from the i-th on leave
pub record Grown (n i : ℕ) (m m' : Moving) : Type 0 where
  pub long : length m'.vectors ≡ length m.vectors
  pub before : (j : ℕ) → j < 2 * i → at m'.vectors j ≡ at m.vectors j
  pub behind : (j : ℕ) → 2 * (i + n) ≤ j → at m'.vectors j ≡ at m.vectors j
  pub fits : Fits m.vectors → Fits m'.vectors
  pub no-fewer : m.clipped ≤ m'.clipped
  pub at_most : m'.clipped ≤ m.clipped + 2 * n

grown-none : (i : ℕ) (m : Moving) → Grown 0 i m m
grown-none i m = record { long = refl; before = λ j h. refl; behind = λ j h. refl; fits = λ f. f; no-fewer = omega arith; at_most = omega arith }

pub value-most : (b : Bool) → bit_value b ≤ 1
value-most true = omega arith
value-most false = omega arith

grown-one : (call : Call) (p : Svq3MvPrecision) (i : ℕ) (m : Moving) (dy dx : ℤ) → Grown 1 i m (moved call p i m dy dx)
unfolding moved put
grown-one call p i m dy dx =
    let from = predictor_at call m.field i in
    let vx = stored_part p from.x.0 dx in
    let vy = stored_part p from.y.0 dy in
    let a = value-most (clipped_part p from.x.0 dx) in
    let b = value-most (clipped_part p from.y.0 dy) in
    record {
      long = put-length m.vectors i vx vy;
      before = λ j h. put_other m.vectors i vx vy j (omega arith) (omega arith);
      behind = λ j h. put_other m.vectors i vx vy j (omega arith) (omega arith);
      fits = λ f. set-fits (set m.vectors (2 * i) vx) (2 * i + 1) vy (set-fits m.vectors (2 * i) vx f (stored-fits p from.x.0 dx)) (stored-fits p from.y.0 dy);
      no-fewer = omega arith;
      at_most = omega arith;
    }

grown-then : {n i : ℕ} {m m₁ m₂ : Moving} → Grown 1 i m m₁ → Grown n (suc i) m₁ m₂ → Grown (suc n) i m m₂
grown-then {n} {i} a b = record {
  long = b.long ∙ a.long;
  before = λ j h. b.before j (omega arith) ∙ a.before j h;
  behind = λ j h. b.behind j (omega arith) ∙ a.behind j (omega arith);
  fits = λ f. b.fits (a.fits f);
  no-fewer = omega (arith, a.no-fewer, b.no-fewer);
  at_most = omega (arith, a.at_most, b.at_most);
}

pub grown : (call : Call) (p : Svq3MvPrecision) (n i : ℕ) (m m' : Moving) (s : List Bool) (q : ℕ) → read_vectors call p n i m s ≡ got m' q → Grown n i m m'
unfolding read_vectors
grown call p zero i m m' s q e = subst (Grown 0 i m) (got-value e) (grown-none i m)
grown call p (suc n) i m m' s q e =
    let a = apart (signed_code s) _ s m' q e in
    let b = apart (signed_code (drop a.m s)) _ (drop a.m s) m' a.k a.second in
    grown-then (grown-one call p i m a.x b.x) (grown call p n (suc i) (moved call p i m a.x b.x) m' (drop b.m (drop a.m s)) b.k b.second)

-- ---- the bits
no-clip : (b c : Bool) (k n : ℕ) → k + bit_value b + bit_value c ≤ n → n ≤ k → (b ≡ false) × (c ≡ false)
no-clip false false k n p q = (refl, refl)
no-clip false true k n p q = absurd (omega arith)
no-clip true false k n p q = absurd (omega arith)
no-clip true true k n p q = absurd (omega arith)

-- one partition's bits, then those of the others
bits-of-one : (call : Call) (p : Svq3MvPrecision) (n i : ℕ) (f : Field) (vs : List ℤ) (dy dx : ℤ) → let from = predictor_at call f i in
    at vs (2 * i) ≡ stored_part p from.x.0 dx → at vs (2 * i + 1) ≡ stored_part p from.y.0 dy → clipped_part p from.x.0 dx ≡ false → clipped_part p from.y.0 dy ≡ false
    → vector_bits call p (suc n) i f vs ≡ signed_bits dy ++ (signed_bits dx ++ vector_bits call p n (suc i) (stored_at call f i (stored_part p from.x.0 dx) (stored_part p from.y.0 dy)) vs)
unfolding vector_bits
bits-of-one call p n i f vs dy dx ex ey cx cy =
    let from = predictor_at call f i in
    rw (ex, ey, difference-back p from.x.0 dx cx, difference-back p from.y.0 dy cy) (append_assoc (signed_bits dy) (signed_bits dx) _)

bits-of-none : (call : Call) (p : Svq3MvPrecision) (i : ℕ) (f : Field) (vs : List ℤ) (s : List Bool) (q : ℕ) → 0 ≡ q → Took (vector_bits call p 0 i f vs) s q
unfolding vector_bits
bits-of-none call p i f vs s q e = subst (Took [] s) e (took-none s)

-- TOOK: where nothing was clipped, the bits taken are those of the vectors
pub vectors-took : (call : Call) (p : Svq3MvPrecision) (n i : ℕ) (m m' : Moving) (s : List Bool) (q : ℕ)
    → 2 * (i + n) ≤ length m.vectors → read_vectors call p n i m s ≡ got m' q → m'.clipped ≤ m.clipped → Took (vector_bits call p n i m.field m'.vectors) s q
unfolding read_vectors moved put
vectors-took call p zero i m m' s q room e h = bits-of-none call p i m.field m'.vectors s q (got-count e)
vectors-took call p (suc n) i m m' s q room e h =
    let a = apart (signed_code s) _ s m' q e in
    let s₁ = drop a.m s in
    let b = apart (signed_code s₁) _ s₁ m' a.k a.second in
    let m₁ = moved call p i m a.x b.x in
    let from = predictor_at call m.field i in
    let g = grown-one call p i m a.x b.x in
    let g' = grown call p n (suc i) m₁ m' (drop b.m s₁) b.k b.second in
    let c = no-clip (clipped_part p from.x.0 b.x) (clipped_part p from.y.0 a.x) m.clipped m'.clipped g'.no-fewer h in
    let ex = g'.before (2 * i) (omega arith) ∙ put-x m.vectors i (stored_part p from.x.0 b.x) (stored_part p from.y.0 a.x) (omega arith) in
    let ey = g'.before (2 * i + 1) (omega arith) ∙ put-y m.vectors i (stored_part p from.x.0 b.x) (stored_part p from.y.0 a.x) (omega arith) in
    let t = vectors-took call p n (suc i) m₁ m' (drop b.m s₁) b.k (omega (arith, g.long)) b.second (omega (arith, g.no-fewer)) in
    subst (λ (w : List Bool). Took w s q) (sym (bits-of-one call p n i m.field m'.vectors a.x b.x ex ey c.0 c.1))
    (took-then (took-format signed-format s a.x a.m a.first)
    (took-then (took-format signed-format s₁ b.x b.m b.first) t b.sum) a.sum)
