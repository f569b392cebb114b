-- `printing::text::put_count`: the word, the number, the end of the line.
use mathlib.Core.List.{List, [], ◌∷◌}
use Prim.Native.Nat.{ℕ}
use Rattle.transcript.proofs.Writing.{Due, due_all, due-fits, due-next, due-none}
use Rattle.printing.specs.Text.{decimal, count_line}
use Rattle.printing.proofs.Texts.{count-parts}
use Rattle.printing.proofs.text.put_count.Goals.{Start}
use Rattle.printing.proofs.text.put_count.Goals as goal

-- what is left to write after each part
abbrev ToWrite : Start → List ℕ → ℕ → List (List ℕ) → Type 0
ToWrite s = Due s.args.out.now s.args.at (count_line s.args.word.now s.args.n)

d1 : (s : Start) → ToWrite s s.args.out.now s.args.at (s.args.word.now ∷ decimal s.args.n ∷ (10 ∷ []) ∷ [])
d1 s = due_all s.args.out.now s.args.at _ _ (count-parts s.args.word.now s.args.n)

pub put_bytes-p-requires : goal.put_bytes-p-requires
put_bytes-p-requires c = due-fits (d1 (goal.at.put_bytes-p-requires c).Start) c.requires

pub put_decimal-p-requires : goal.put_decimal-p-requires
put_decimal-p-requires c = due-fits (due-next (d1 (goal.at.put_decimal-p-requires c).Start) c.put_bytes-p.ensures) c.requires

pub put_bytes-requires : goal.put_bytes-requires
put_bytes-requires c = due-fits (due-next (due-next (d1 (goal.at.put_bytes-requires c).Start) c.put_bytes-p.ensures) c.put_decimal-p.ensures) c.requires

pub returns : goal.returns
returns c = due-none (due-next (due-next (due-next (d1 (goal.at.returns c).Start) c.put_bytes-p.ensures) c.put_decimal-p.ensures) c.put_bytes.ensures)
