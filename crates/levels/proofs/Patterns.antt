-- The pattern: the table is one-to-one on 0 .. 47, so a pattern has one code; what the functions answer.
-- Assumes nothing.
use mathlib.Core.Path.{◌≡◌, refl}
use mathlib.Core.Bool.{Bool, true, false, cond, ◌&&◌}
use mathlib.Core.List.{List}
use Prim.Native.Nat.{ℕ, ◌<◌}
use native.Mathlib.Omega.{arith}
use borrow.Author.Tests.{lt-ltb, le-ltb, ltb-true}
use lib.Dec.{eqb, ltb, eqb→eq, ltb→lt}
use lib.ListN.{get_or}
use Rattle.refusal.specs.Format.{Format}
use Rattle.refusal.specs.declared.Refusal.{Refusal}
use Rattle.refusal.specs.declared.Refusal.TheVariants.{InvalidFrameCode}
use Rattle.refusal.proofs.Formats.{renamed}
use Rattle.bits.specs.Code.{code}
use Rattle.bits.proofs.Unique.{code-format}
use Rattle.refusal.specs.Answered.{answered}
use Rattle.refusal.proofs.Answered.{Answered, answered-got, answered-refused}
use Rattle.levels.specs.Lists.{place_of}
use Rattle.levels.specs.Pattern.{patterns, pattern_code, pattern, pattern_bits, PatternRange}
use Rattle.levels.specs.InnerPattern.{pattern_entry}
use Rattle.std.specs.Prelude.{Some, None, Ok, Err}
use Rattle.std.specs.Option.{ok_or}
use Rattle.levels.proofs.ShortTable.{both_left, both_right, at}
use Rattle.levels.proofs.Kept.{kept}

-- ---- the table
right_code : ℕ → Bool
right_code k = eqb (pattern_code (get_or patterns k 0)) k && ltb (get_or patterns k 0) 48

right_pattern : ℕ → Bool
right_pattern v = eqb (get_or patterns (pattern_code v) 0) v && ltb (pattern_code v) 48

code-back : (k : ℕ) → k < 48 → (pattern_code (get_or patterns k 0) ≡ k) × PatternRange (get_or patterns k 0)
unfolding right_code patterns place_of
code-back k h =
    let v = get_or patterns k 0 in
    let t = at right_code 48 tt k h in
    (eqb→eq (pattern_code v) k (both_left (eqb (pattern_code v) k) (ltb v 48) t), ltb→lt v 48 (both_right (eqb (pattern_code v) k) (ltb v 48) t))

pattern-back : (v : ℕ) → PatternRange v → (get_or patterns (pattern_code v) 0 ≡ v) × (pattern_code v < 48)
unfolding right_pattern patterns place_of
pattern-back v h =
    let k = pattern_code v in
    let t = at right_pattern 48 tt v h in
    (eqb→eq (get_or patterns k 0) v (both_left (eqb (get_or patterns k 0) v) (ltb k 48) t), ltb→lt k 48 (both_right (eqb (get_or patterns k 0) v) (ltb k 48) t))

-- UNIQUE READING of a pattern
pub pattern-format : Format pattern pattern_bits PatternRange
unfolding pattern pattern_bits
pattern-format =
    renamed (kept code-format (λ k. ltb k 48) InvalidFrameCode) (λ k. get_or patterns k 0) (λ v. pattern_code v) PatternRange
    (λ k h. (code-back k (ltb-true k 48 h.1)).1)
    (λ v h. let b = (pattern-back v h).1 in (omega arith, lt-ltb (pattern_code v) 48 b))
    (λ v h. (pattern-back v h).0)
    (λ k h. (code-back k (ltb-true k 48 h.1)).0)

-- ---- what the functions answer
pub entry-is : (k : ℕ) → k < 48 → Some (get_or patterns k 0) ≡ pattern_entry k
unfolding pattern_entry
entry-is k h = rw (lt-ltb k 48 h)

pub missing-is : (k : ℕ) → (k < 48 → ⊥) → None ≡ pattern_entry k
unfolding pattern_entry
missing-is k h = rw (le-ltb k 48 (omega arith))

module _ (start : ℕ) (s : List Bool) where
  pub pattern-entry : (k q v : ℕ) → Ok (k, q) ≡ answered start (code s) → Ok v ≡ ok_or (pattern_entry k) (InvalidFrameCode k) → Ok (v, q) ≡ answered start (pattern s)
  unfolding pattern pattern_entry
  pattern-entry k q v e h = go (answered-got start (code s) k q e) (ltb k 48) refl h
    where
      go : Answered start (code s) k q → (t : Bool) → ltb k 48 ≡ t → Ok v ≡ ok_or (cond t (Some (get_or patterns k 0)) None) (InvalidFrameCode k) → Ok (v, q) ≡ answered start (pattern s)
      go a true b h = let i : v ≡ get_or patterns k 0 = cc in rw (a.is, b, a.moved, i)
      go a false b h = absurd (let z : ◌≡◌ {A = ℕ} 0 1 = cc in omega arith)

  pub pattern-missing : (k q : ℕ) (r : Refusal) → Ok (k, q) ≡ answered start (code s) → Err r ≡ ok_or (pattern_entry k) (InvalidFrameCode k) → Err r ≡ answered start (pattern s)
  unfolding pattern pattern_entry
  pattern-missing k q r e h = go (answered-got start (code s) k q e) (ltb k 48) refl h
    where
      go : Answered start (code s) k q → (t : Bool) → ltb k 48 ≡ t → Err r ≡ ok_or (cond t (Some (get_or patterns k 0)) None) (InvalidFrameCode k) → Err r ≡ answered start (pattern s)
      go a true b h = absurd (let z : ◌≡◌ {A = ℕ} 0 1 = cc in omega arith)
      go a false b h = let i : r ≡ InvalidFrameCode k = cc in rw (a.is, b, i)

  pub pattern-refused : (r : Refusal) → Err r ≡ answered start (code s) → Err r ≡ answered start (pattern s)
  unfolding pattern
  pattern-refused r e = rw (answered-refused start (code s) r e)
