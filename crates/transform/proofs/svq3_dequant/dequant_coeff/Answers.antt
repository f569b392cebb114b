-- The entry of the table in the code is that of the definition.
use Rattle.std.proofs.Common.{refl}
use Rattle.transform.specs.Tables.{dequant_coeff}
use Rattle.transform.proofs.Tables.{entry}
use Rattle.transform.proofs.svq3_dequant.dequant_coeff.Goals as goal

pub invariant_of-result : goal.invariant_of-result
unfolding dequant_coeff
invariant_of-result c = record { small = (entry c.args.q.number c.args.q.ranged).1 }

pub returns : goal.returns
unfolding dequant_coeff
returns c = refl
