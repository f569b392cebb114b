-- Laws of a list of calls: a call takes a byte at least, and the first call is in front of the calls of the rest.
-- Assumes nothing.
use mathlib.Core.Path.{◌≡◌, refl, ap}
use mathlib.Core.List.{List, []}
use Prim.Native.Nat.{ℕ, ◌≤◌, ◌<◌}
use native.Mathlib.Omega.{arith}
use lib.ListN.{length, drop, length-drop}
use lib.Seq.{drop-drop}
use Rattle.refusal.specs.Got.{Got, got, refused, and_then, map_got}
use Rattle.refusal.specs.declared.Refusal.{Refusal}
use Rattle.refusal.proofs.Formats.{bounded}
use Rattle.refusal.proofs.Local.{apart}
use Rattle.number.specs.Number.{read_number}
use Rattle.refusal.specs.Answered.{answered}
use Rattle.std.specs.Prelude.{Ok, Err}
use Rattle.number.proofs.Numbers.{number-format, number-length}
use Rattle.refusal.proofs.Answered.{answered-got, answered-refused}
use Rattle.refusal.proofs.Lists.{Takes, Next, mapped, until_all, until-next, until_none, tally}
use Rattle.state.specs.declared.Call.{Call}
use Rattle.run.specs.Calls.{call_in, calls_in, calls}
use Rattle.run.specs.InnerCalls.{calls_answer}

abbrev call_of : ℕ → ℕ → ℕ → Call
call_of column row mode = record { column = column; row = row; mode = mode }

-- a number takes a byte at least
number-takes : (s : List ℕ) (v n : ℕ) → read_number s ≡ got v n → (1 ≤ n) × (n ≤ length s)
number-takes s v n e = (omega (arith, (number-format.came s v n e).taken, number-length v), bounded number-format s v n e)

-- and so does a call
pub call-takes : Takes call_in
unfolding call_in
call-takes = record {
  takes = λ s c n e.
      let a = apart (read_number s) (λ column s₁. and_then (read_number s₁) s₁ (λ row s₂. map_got (λ mode. call_of column row mode) (read_number s₂))) s c n e in
      let b = apart (read_number (drop a.m s)) (λ row s₂. map_got (λ mode. call_of a.x row mode) (read_number s₂)) (drop a.m s) c a.k a.second in
      let g = mapped (λ mode. call_of a.x b.x mode) (read_number (drop b.m (drop a.m s))) c b.k b.second in
      let ta = number-takes s a.x a.m a.first in
      let tb = number-takes (drop a.m s) b.x b.m b.first in
      let tc = number-takes (drop b.m (drop a.m s)) g.0 b.k g.1 in
      let la = length-drop a.m s in
      let lb = length-drop b.m (drop a.m s) in
      (omega (arith, a.sum, b.sum), omega (arith, a.sum, b.sum));
}

-- ---- the calls of a list
pub calls-none : (s : List ℕ) (cs : List Call) (n : ℕ) → length s ≡ 0 → calls s ≡ got cs n → cs ≡ []
unfolding calls calls_in
calls-none = until_none call_in

-- the call at the place p of a list, where a loop stands, and the calls behind it
pub calls-next : (s : List ℕ) (p : ℕ) (cs : List Call) (n : ℕ) → p < length s → calls (drop p s) ≡ got cs n → Next call_in calls s p cs
unfolding calls calls_in
calls-next = until-next call-takes

-- ---- what a reader of one call answers
module _ (s : List ℕ) (at : ℕ) where
  pub no-column : (r : Refusal) → Err r ≡ answered at (read_number (drop at s)) → Err r ≡ answered at (call_in (drop at s))
  unfolding call_in
  no-column r e = rw (answered-refused at (read_number (drop at s)) r e)

  module _ (column p : ℕ) (e : Ok (column, p) ≡ answered at (read_number (drop at s))) where
    pub no_row : (r : Refusal) → Err r ≡ answered p (read_number (drop p s)) → Err r ≡ answered at (call_in (drop at s))
    unfolding call_in
    no_row r f =
        let g = answered-refused p (read_number (drop p s)) r f in
        let a = answered-got at (read_number (drop at s)) column p e in
        rw (a.is, drop-drop a.taken at s, ← a.moved, g)

    module _ (row q : ℕ) (f : Ok (row, q) ≡ answered p (read_number (drop p s))) where
      pub no_mode : (r : Refusal) → Err r ≡ answered q (read_number (drop q s)) → Err r ≡ answered at (call_in (drop at s))
      unfolding call_in
      no_mode r g =
          let k = answered-refused q (read_number (drop q s)) r g in
          let a = answered-got at (read_number (drop at s)) column p e in
          let b = answered-got p (read_number (drop p s)) row q f in
          rw (a.is, drop-drop a.taken at s, ← a.moved, b.is, drop-drop b.taken p s, ← b.moved, k)

      pub whole : (mode next : ℕ) → Ok (mode, next) ≡ answered q (read_number (drop q s)) → Ok (call_of column row mode, next) ≡ answered at (call_in (drop at s))
      unfolding call_in
      whole mode next g =
          let a = answered-got at (read_number (drop at s)) column p e in
          let b = answered-got p (read_number (drop p s)) row q f in
          let c = answered-got q (read_number (drop q s)) mode next g in
          rw (a.is, drop-drop a.taken at s, ← a.moved, b.is, drop-drop b.taken p s, ← b.moved, c.is) (ap (λ (n : ℕ). Ok (call_of column row mode, n)) (omega (arith, a.moved, b.moved, c.moved)))

-- ---- how many there are, as a loop counts them
pub calls-tally : (s : List ℕ) → calls_answer (calls s) ≡ tally Ok Err 0 (until_all call_in s)
unfolding calls calls_in
calls-tally s = go (until_all call_in s)
  where
    go : (g : Got (List Call)) → calls_answer g ≡ tally Ok Err 0 g
    go (got cs n) = ap Ok (omega arith)
    go (refused r) = refl
