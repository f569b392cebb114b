-- `transcript::parse::short_at`: whether the bytes are there, then whether each is short.
use mathlib.Core.Path.{◌∙◌}
use native.Mathlib.Omega.{arith}
use Rattle.transcript.proofs.Received.{short-before, short-beyond, short-within}
use Rattle.transcript.proofs.parse.short_at.Goals as goal

pub returns-then-at-ahead : goal.returns-then-at-ahead
returns-then-at-ahead c = let a = c.args in short-before a.bytes.now a.at a.ahead (omega arith)

pub returns-then-bytes-lt16 : goal.returns-then-bytes-lt16
returns-then-bytes-lt16 c = let a = c.args in short-beyond a.bytes.now a.at a.ahead (omega arith) (omega arith)

pub returns-then-bytes-at : goal.returns-then-bytes-at
returns-then-bytes-at c = let a = c.args in short-beyond a.bytes.now a.at a.ahead (omega arith) (omega arith)

pub returns : goal.returns
returns c =
    let a = c.args in
    c.all_short.ensures ∙ short-within a.bytes.now a.at a.ahead (omega arith) (omega arith)
