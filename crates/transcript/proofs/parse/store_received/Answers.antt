-- `transcript::parse::store_received`: sixteen numbers, then the place that is not sent.
use mathlib.Core.Path.{ap, ◌∙◌}
use native.Mathlib.Omega.{arith}
use lib.IntN.{pos}
use lib.ListN.{set}
use Rattle.refusal.proofs.Parts.{part-sets}
use Rattle.transcript.proofs.Received.{all-stored, rest-stored}
use Rattle.transcript.proofs.parse.store_received.Goals as goal

pub returns-then-start-eq1 : goal.returns-then-start-eq1
returns-then-start-eq1 c =
    let a = c.args in
    ap (λ xs. set xs a.first (pos 0)) (part-sets a.first 16 a.out.now _ a.t.now c.copy_from_slice.ensures.after c.told-t c.requires.1)
    ∙ rest-stored a.out.now a.first a.t.now a.start (omega arith) (omega arith)

pub returns-else-start-eq1 : goal.returns-else-start-eq1
returns-else-start-eq1 c =
    let a = c.args in
    part-sets a.first 16 a.out.now _ a.t.now c.copy_from_slice.ensures.after c.told-t c.requires.1 ∙ all-stored a.out.now a.first a.t.now a.start (omega arith)
