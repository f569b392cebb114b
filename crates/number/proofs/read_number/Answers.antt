-- `number::read_number` answers `read_number`: one group at once, more by `read_groups`.
use mathlib.Core.Path.{sym}
use native.Mathlib.Omega.{arith}
use Rattle.number.proofs.Reading.{one-group}
use Rattle.number.proofs.read_number.Goals as goal

pub returns-then-b-lt128 : goal.returns-then-b-lt128
returns-then-b-lt128 c =
    let a = c.args in
    sym (one-group a.s.now 0 a.at 0 0 (omega arith) (omega arith))
