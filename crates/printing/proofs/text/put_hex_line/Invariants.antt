-- `printing::text::put_hex_line`: the digits that are left, and the end of the line, written at their place, give the whole.
use Rattle.transcript.proofs.Writing.{Still}
use Rattle.printing.specs.Text.{hex_line}
use Rattle.printing.proofs.Texts.{hex-from}
use Rattle.printing.proofs.text.put_hex_line.Given as goal

abbrev pub invariant-loop-b : goal.invariant-loop-b
invariant-loop-b l = Still l.initial.out l.at (hex_line l.bytes) l.out l.p (hex-from l.bytes l.b-index)
