-- `printing::print::put_run`: the records, the bits, the refusal.
use mathlib.Core.List.{List, [], ◌∷◌, ◌++◌}
use Prim.Native.Nat.{ℕ, ◌+◌, ◌≤◌}
use native.Mathlib.Omega.{arith}
use lib.ListN.{length}
use Rattle.transcript.specs.Records.{records}
use Rattle.transcript.proofs.Writing.{Due, due_all, due-fits, due-next, due-none}
use Rattle.printing.specs.Text.{bits_line}
use Rattle.printing.specs.Print.{lines_of, stop_lines}
use Rattle.printing.proofs.Texts.{three-parts}
use Rattle.printing.proofs.Lines.{run_length}
use Rattle.printing.proofs.print.put_run.Goals.{Start}
use Rattle.printing.proofs.print.put_run.Goals as goal

abbrev records-of : Start → List ℕ
records-of s = lines_of (records s.args.transcript.grid.cols s.args.transcript.grid.rows s.args.transcript.bytes.now)

abbrev all_of : Start → List ℕ
all_of s = records-of s ++ bits_line s.args.consumed ++ stop_lines s.args.stop

-- what is left to write after each part
abbrev ToWrite : Start → List ℕ → ℕ → List (List ℕ) → Type 0
ToWrite s = Due s.args.out.now 0 (all_of s)

most : (s : Start) → 0 + length (all_of s) ≤ 100352
most s = omega (arith, run_length s.args.transcript.grid.cols s.args.transcript.grid.rows s.args.transcript.wide s.args.transcript.high s.requires.0 s.requires.1 s.args.consumed s.ranges.consumed.fits s.args.stop)

room : (s : Start) → 0 + length (all_of s) ≤ length s.args.out.now
room s = omega (arith, most s, s.told-out)

d1 : (s : Start) → ToWrite s s.args.out.now 0 (records-of s ∷ bits_line s.args.consumed ∷ stop_lines s.args.stop ∷ [])
d1 s = due_all s.args.out.now 0 _ _ (three-parts (records-of s) (bits_line s.args.consumed) (stop_lines s.args.stop))

pub put_records-p-requires : goal.put_records-p-requires
put_records-p-requires c =
    let s = (goal.at.put_records-p-requires c).Start in
    record { recorded = c.requires.0; room = due-fits (d1 s) (room s) }

pub put_bits-p-requires : goal.put_bits-p-requires
put_bits-p-requires c =
    let s = (goal.at.put_bits-p-requires c).Start in
    due-fits (due-next (d1 s) c.put_records-p.ensures) (room s)

pub put_stop-requires : goal.put_stop-requires
put_stop-requires c =
    let s = (goal.at.put_stop-requires c).Start in
    due-fits (due-next (due-next (d1 s) c.put_records-p.ensures) c.put_bits-p.ensures) (room s)

pub returns : goal.returns
returns c =
    let s = (goal.at.returns c).Start in
    let w = due-none (due-next (due-next (due-next (d1 s) c.put_records-p.ensures) c.put_bits-p.ensures) c.put_stop.ensures) in
    (omega (arith, w.moved, most s), w)
