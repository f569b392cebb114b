-- The precision selector at a place of a list of bits, by the bit or the two bits there.
-- Assumes nothing.
use mathlib.Core.Path.{◌≡◌, refl, sym, ap, ◌∙◌}
use mathlib.Core.Bool.{Bool, true, false, cond}
use mathlib.Core.List.{List, [], ◌∷◌}
use Prim.Native.Nat.{ℕ, ◌+◌}
use native.Mathlib.Omega.{arith}
use lib.ListN.{drop}
use lib.Seq.{drop-drop}
use Rattle.std.specs.Prelude.{Ok, Err}
use Rattle.refusal.specs.Got.{map_got}
use Rattle.refusal.specs.Answered.{answered}
use Rattle.refusal.specs.declared.Refusal.{Refusal}
use Rattle.refusal.specs.declared.Refusal.TheVariants.{Truncated}
use Rattle.refusal.proofs.Answered.{answered-map, refused-map}
use Rattle.vectors.specs.Precision.{both_flags, one_flag}
use Rattle.vectors.specs.InnerPrecision.{first_bit}
use Rattle.vectors.specs.declared.svq3_mb.Svq3MvPrecision.{Svq3MvPrecision}
use Rattle.vectors.specs.declared.svq3_mb.Svq3MvPrecision.TheVariants.{Fullpel, Halfpel, Thirdpel}

-- ---- a flag alone: the precision by its bit
by-bit : (p : Svq3MvPrecision) (s : List Bool) → map_got (λ b. cond b p Fullpel) (first_bit s) ≡ one_flag p s
unfolding one_flag first_bit
by-bit p [] = refl
by-bit p (true ∷ s) = refl
by-bit p (false ∷ s) = refl

module _ (p : Svq3MvPrecision) (at : ℕ) (s : List Bool) where
  pub one-ends : (r : Refusal) → Err r ≡ answered at (first_bit s) → Err r ≡ answered at (one_flag p s)
  one-ends r e = refused-map (λ b. cond b p Fullpel) at (first_bit s) r e ∙ ap (answered at) (by-bit p s)

  pub one_read : (b : Bool) (next : ℕ) → Ok (b, next) ≡ answered at (first_bit s) → Ok (cond b p Fullpel, next) ≡ answered at (one_flag p s)
  one_read b next e = answered-map (λ b. cond b p Fullpel) at (first_bit s) b next e ∙ ap (answered at) (by-bit p s)

-- ---- both flags, from a place of a list of bits on
module _ (s : List Bool) (at : ℕ) where
  -- the bit that was read, and what follows it
  bit-there : (b : Bool) (next : ℕ) → Ok (b, next) ≡ answered at (first_bit (drop at s)) → (drop at s ≡ b ∷ drop next s) × (next ≡ at + 1)
  unfolding first_bit
  bit-there b next e = go (drop at s) refl e
    where
      go : (t : List Bool) → drop at s ≡ t → Ok (b, next) ≡ answered at (first_bit t) → (drop at s ≡ b ∷ drop next s) × (next ≡ at + 1)
      go [] d f = absurd (let z : ◌≡◌ {A = ℕ} 0 1 = cc in omega arith)
      go (x ∷ t) d f =
          let p : (b, next) ≡ (x, at + 1) = cc in
          let r : t ≡ drop (at + 1) s = ap (drop 1) (sym d) ∙ drop-drop 1 at s in
          let x' : b ≡ x = ap (λ (q : Bool × ℕ). q.0) p in
          let n : next ≡ at + 1 = ap (λ (q : Bool × ℕ). q.1) p in
          (d ∙ rw (x', n, r) refl, n)

  none-there : (r : Refusal) → Err r ≡ answered at (first_bit (drop at s)) → (drop at s ≡ []) × (r ≡ Truncated)
  unfolding first_bit
  none-there r e = go (drop at s) e
    where
      go : (t : List Bool) → Err r ≡ answered at (first_bit t) → (t ≡ []) × (r ≡ Truncated)
      go [] f = (refl, cc)
      go (x ∷ t) f = absurd (let z : ◌≡◌ {A = ℕ} 0 1 = cc in omega arith)

  pub both_end : (r : Refusal) → Err r ≡ answered at (first_bit (drop at s)) → Err r ≡ answered at (both_flags (drop at s))
  unfolding both_flags
  both_end r e = let n = none-there r e in rw (n.0, n.1) refl

  pub third : (next : ℕ) → Ok (false, next) ≡ answered at (first_bit (drop at s)) → Ok (Thirdpel, next) ≡ answered at (both_flags (drop at s))
  unfolding both_flags
  third next e = let b = bit-there false next e in rw (b.0, b.1) refl

-- two bits, the first of them set
two : (at : ℕ) (b : Bool) (t : List Bool) → Ok (cond b Fullpel Halfpel, at + 2) ≡ answered at (both_flags (true ∷ b ∷ t))
unfolding both_flags
two at true t = refl
two at false t = refl

module _ (s : List Bool) (at second : ℕ) (e : Ok (true, second) ≡ answered at (first_bit (drop at s))) where
  pub cut_off : (r : Refusal) → Err r ≡ answered second (first_bit (drop second s)) → Err r ≡ answered at (both_flags (drop at s))
  unfolding both_flags
  cut_off r f = let n = none-there s second r f in rw ((bit-there s at true second e).0, n.0, n.1) refl

  pub second-bit : (b : Bool) (next : ℕ) → Ok (b, next) ≡ answered second (first_bit (drop second s)) → Ok (cond b Fullpel Halfpel, next) ≡ answered at (both_flags (drop at s))
  second-bit b next f =
      let c = bit-there s at true second e in
      let d = bit-there s second b next f in
      let n : next ≡ at + 2 = omega (arith, c.1, d.1) in
      rw (c.0, d.0, n) (two at b _)
