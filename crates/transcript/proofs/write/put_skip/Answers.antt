-- `transcript::write::put_skip` writes column, row and mode 0.
use mathlib.Core.List.{List, [], ◌∷◌}
use Prim.Native.Nat.{ℕ, ◌+◌, ◌≤◌}
use native.Mathlib.Omega.{arith}
use lib.ListN.{length}
use Rattle.number.specs.Number.{number}
use Rattle.record.specs.Record.{skip_record}
use Rattle.record.specs.Write.{record_bytes}
use Rattle.transcript.proofs.Writing.{Due, due_all, due-fits, due-number, due-none, skip-parts, skip-length}
use Rattle.transcript.proofs.write.put_skip.Goals.{Start}
use Rattle.transcript.proofs.write.put_skip.Goals as goal

abbrev bytes : Start → List ℕ
bytes s = record_bytes (skip_record s.args.column s.args.row)

room : (s : Start) → s.args.at + length (bytes s) ≤ length s.args.out.now
room s = omega (arith, skip-length s.args.column s.args.row s.requires.0 s.requires.1, s.requires.2)

abbrev ToWrite : Start → List ℕ → ℕ → List (List ℕ) → Type 0
ToWrite s = Due s.args.out.now s.args.at (bytes s)

d1 : (s : Start) → ToWrite s s.args.out.now s.args.at (number s.args.column ∷ number s.args.row ∷ number 0 ∷ [])
d1 s = due_all s.args.out.now s.args.at (bytes s) _ (skip-parts s.args.column s.args.row)

pub put_number-p-requires : goal.put_number-p-requires
put_number-p-requires c = due-fits (d1 (goal.at.put_number-p-requires c).Start) (room (goal.at.put_number-p-requires c).Start)

pub put_number-p-requires-2 : goal.put_number-p-requires-2
put_number-p-requires-2 c = due-fits (due-number (d1 (goal.at.put_number-p-requires-2 c).Start) c.put_number-p.ensures) (room (goal.at.put_number-p-requires-2 c).Start)

pub put_number-requires : goal.put_number-requires
put_number-requires c =
    due-fits (due-number (due-number (d1 (goal.at.put_number-requires c).Start) c.put_number-p.ensures) c.put_number-p-2.ensures) (room (goal.at.put_number-requires c).Start)

pub returns : goal.returns
returns c =
    due-none (due-number (due-number (due-number (d1 (goal.at.returns c).Start) c.put_number-p.ensures) c.put_number-p-2.ensures) c.put_number.ensures)
