-- The entry of the table in the code is that of the definition.
use mathlib.Core.Path.{refl}
use Rattle.transform.specs.Tables.{chroma_quantiser_index}
use Rattle.transform.proofs.Tables.{index}
use Rattle.transform.proofs.svq3_dequant.chroma_quantiser_index.Goals as goal

pub invariant_of-result : goal.invariant_of-result
unfolding chroma_quantiser_index
invariant_of-result c = record { ranged = index c.args.q.number c.args.q.ranged }

pub returns : goal.returns
unfolding chroma_quantiser_index
returns c = refl
