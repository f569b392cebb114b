-- `transcript::write::put_coded` writes column, row and mode, then the rest.
use mathlib.Core.List.{List, [], ◌∷◌}
use Prim.Native.Nat.{ℕ, ◌+◌, ◌≤◌}
use native.Mathlib.Omega.{arith}
use lib.ListN.{length}
use Rattle.number.specs.Number.{number}
use Rattle.record.specs.Record.{Record}
use Rattle.record.specs.InnerRecord.{record_of}
use Rattle.record.specs.Write.{rest_bytes, record_bytes}
use Rattle.record.proofs.Lengths.{record-length}
use Rattle.transcript.proofs.Writing.{Due, due_all, due-fits, due-next, due-number, due-none, coded-parts}
use Rattle.transcript.proofs.write.put_coded.Goals.{Start}
use Rattle.transcript.proofs.write.put_coded.Goals as goal

abbrev R : Start → Record
R s = record_of s.args.head s.args.vectors.now s.args.levels.now

room : (s : Start) → s.args.at + length (record_bytes (R s)) ≤ length s.args.out.now
room s = omega (arith, record-length (R s) s.requires.0, s.requires.2)

abbrev ToWrite : Start → List ℕ → ℕ → List (List ℕ) → Type 0
ToWrite s = Due s.args.out.now s.args.at (record_bytes (R s))

-- what is to write before the first number
d1 : (s : Start) → ToWrite s s.args.out.now s.args.at (number (R s).head.column ∷ number (R s).head.row ∷ number (R s).head.mode ∷ rest_bytes (R s) ∷ [])
d1 s = due_all s.args.out.now s.args.at (record_bytes (R s)) _ (coded-parts (R s) s.requires.1)

-- ---- the needs
pub put_number-p-requires : goal.put_number-p-requires
put_number-p-requires c = let s = (goal.at.put_number-p-requires c).Start in due-fits (d1 s) (room s)

pub put_number-p-requires-2 : goal.put_number-p-requires-2
put_number-p-requires-2 c = let s = (goal.at.put_number-p-requires-2 c).Start in due-fits (due-number (d1 s) c.put_number-p.ensures) (room s)

pub put_number-p-requires-3 : goal.put_number-p-requires-3
put_number-p-requires-3 c =
    let s = (goal.at.put_number-p-requires-3 c).Start in
    due-fits (due-number (due-number (d1 s) c.put_number-p.ensures) c.put_number-p-2.ensures) (room s)

pub put_rest-requires : goal.put_rest-requires
put_rest-requires c =
    let s = (goal.at.put_rest-requires c).Start in
    (c.requires.0, due-fits (due-number (due-number (due-number (d1 s) c.put_number-p.ensures) c.put_number-p-2.ensures) c.put_number-p-3.ensures) (room s))

pub returns : goal.returns
returns c =
    due-none
    (due-next (due-number (due-number (due-number (d1 (goal.at.returns c).Start) c.put_number-p.ensures) c.put_number-p-2.ensures) c.put_number-p-3.ensures) c.put_rest.ensures)
