-- `apply::svq3_frame::over` meets its contract.
use native.Mathlib.Nat.{div-one}
use Rattle.apply.proofs.svq3_frame.over.Goals as goal

pub returns-then-chroma : goal.returns-then-chroma
returns-then-chroma c = rw c.if-chroma.true

pub returns-else-chroma : goal.returns-else-chroma
returns-else-chroma c = rw (c.if-chroma.false, div-one c.args.v)
