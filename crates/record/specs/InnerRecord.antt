-- The record that a head, vectors and levels make.
-- Assumes nothing.
use Rattle.std.specs.Prelude.{List, ℤ}
use Rattle.record.specs.declared.Head.{Head}
use Rattle.record.specs.Record.{Record}

-- numbers, vectors and levels that stand beside each other
abbrev pub record_of : Head → List ℤ → List ℤ → Record
record_of h vs ls = record { head = h; vectors = vs; levels = ls }
