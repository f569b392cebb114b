-- A transcript has no more records than bytes.
-- Assumes nothing.
use mathlib.Core.Path.{◌≡◌}
use mathlib.Core.Bool.{Bool, true, false}
use mathlib.Core.List.{List, [], ◌∷◌}
use Prim.Native.Nat.{ℕ, zero, suc, ◌≤◌}
use native.Mathlib.Omega.{arith}
use lib.ListN.{length, drop}
use Rattle.ints.specs.Z.{when◌then◌else◌}
use Rattle.refusal.specs.Got.{Got, got, refused, and_then, after, map_got}
use Rattle.refusal.specs.declared.Refusal.{Refusal}
use Rattle.refusal.specs.declared.Refusal.TheVariants.{GridSize}
use Rattle.refusal.specs.Until.{until_end}
use Rattle.state.specs.Questions.{grid_right}
use Rattle.record.specs.Record.{Record}
use Rattle.record.specs.Parse.{parse_record}
use Rattle.transcript.specs.Records.{records, records_in}
use Rattle.transcript.specs.Check.{check_answer, checked}
use Rattle.std.specs.Prelude.{Ok, Err}

-- ---- how many values are read: a turn reads one at most
abbrev Few : {X : Type 0} → ℕ → Got (List X) → Type 0
Few turns (got xs n) = length xs ≤ turns
Few turns (refused r) = Unit {0}

one_more : {X : Type 0} (turns : ℕ) (x : X) (n : ℕ) (g : Got (List X)) → Few turns g → Few (suc turns) (after n (map_got (λ xs. x ∷ xs) g))
one_more turns x n (got xs m) h = omega arith
one_more turns x n (refused r) h = tt

module _ {E X : Type 0} (read : List E → Got X) where
  turn : (turns : ℕ) (s : List E) (g : Got X) → ((u : List E) → Few turns (until_end read turns u)) → Few (suc turns) (and_then g s (λ x rest. map_got (λ xs. x ∷ xs) (until_end read turns rest)))
  turn turns s (got x n) h = one_more turns x n (until_end read turns (drop n s)) (h (drop n s))
  turn turns s (refused r) h = tt

  few : (turns : ℕ) (s : List E) → Few turns (until_end read turns s)
  unfolding until_end
  few zero [] = omega arith
  few zero (e ∷ s) = tt
  few (suc turns) [] = omega arith
  few (suc turns) (e ∷ s) = turn turns (e ∷ s) (read (e ∷ s)) (λ u. few turns u)

apart : {A : Type 0} {why : Refusal} {n : ℕ} → Ok n ≡ Err why → A
apart e = absurd (let z : ◌≡◌ {A = ℕ} 0 1 = cc in omega arith)

pub few-records : (cols rows : ℕ) (bytes : List ℕ) {n : ℕ} → Ok n ≡ checked cols rows bytes → n ≤ length bytes
unfolding checked records records_in when◌then◌else◌
few-records cols rows bytes {n} e = go (grid_right cols rows) (records cols rows bytes) (few (parse_record cols rows) (length bytes) bytes) e
  where
    go : (right : Bool) (g : Got (List Record)) → Few (length bytes) g → Ok n ≡ (when right then check_answer g else Err GridSize) → n ≤ length bytes
    go true (got rs k) h x = let m : n ≡ length rs = cc in omega arith
    go true (refused why) h x = apart x
    go false g h x = apart x
