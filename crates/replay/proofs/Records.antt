-- A replay, a record at a time: what the records that are left will leave is what all of them leave.
-- Assumes nothing.
use mathlib.Core.Path.{◌≡◌, sym, ap, ◌∙◌}
use mathlib.Core.List.{List}
use Prim.Native.Nat.{ℕ, ◌+◌, ◌≤◌, ◌<◌}
use native.Mathlib.Omega.{arith}
use lib.ListN.{length, drop, length-drop}
use Rattle.refusal.specs.Got.{got}
use Rattle.record.specs.Parse.{parse_record}
use Rattle.refusal.proofs.Lists.{Next}
use Rattle.transcript.specs.Records.{records}
use Rattle.transcript.proofs.Checks.{records-none, records-next}
use Rattle.state.specs.State.{State}
use Rattle.replay.specs.InnerStepped.{Stepped}
use Rattle.replay.specs.Replay.{applied_all}
use Rattle.replay.specs.InnerRecorded.{Recorded, applied_of, all_left}

-- the transcript is read up to `at`
pub record Replaying (whole s : State) (bytes : List ℕ) (at : ℕ) : Type 0 where
  pub recorded : Recorded s.cols s.rows (drop at bytes)
  pub same : applied_all s recorded.rs ≡ whole

-- at first
pub start : (s : State) {bytes : List ℕ} → Recorded s.cols s.rows bytes → Replaying (all_left s bytes) s bytes 0
unfolding all_left
start s r = record { recorded = r; same = ap (applied_of s) (sym r.is) }

module _ {whole s : State} {bytes : List ℕ} {at : ℕ} (g : Replaying whole s bytes at) where
  -- no record is left
  pub end : length bytes ≤ at → s ≡ whole
  unfolding applied_all
  end h =
      let e = records-none s.cols s.rows (drop at bytes) g.recorded.rs g.recorded.taken (length-drop at bytes ∙ omega arith) g.recorded.is in
      ap (applied_all s) (sym e) ∙ g.same

  module _ (wide : s.cols ≤ 4096) (high : s.rows ≤ 4096) (lt : at < length bytes) where
    next-record : Next (parse_record s.cols s.rows) (records s.cols s.rows) bytes at g.recorded.rs
    next-record = records-next s.cols s.rows wide high bytes at g.recorded.rs g.recorded.taken lt g.recorded.is

    module _ {t : State} {next : ℕ} (p : Stepped bytes at next s t) where
      next-is : next ≡ at + next-record.k
      next-is = p.moved next-record.x next-record.k next-record.reads

      pub further : at < next
      further = omega (arith, next-is, next-record.some)

      -- the record's work was done
      pub on : (t.cols ≡ s.cols) × (t.rows ≡ s.rows) → Replaying whole t bytes next
      unfolding applied_all
      on z =
          let n = next-record in
          let i : records t.cols t.rows (drop next bytes) ≡ got n.rest n.m = rw (z.0, z.1, next-is) n.behind in
          record {
            recorded = record { rs = n.rest; taken = n.m; is = i };
            same = ap (λ (x : State). applied_all x n.rest) (p.leaves n.x n.k n.reads) ∙ ap (applied_all s) (sym n.is) ∙ g.same;
          }
