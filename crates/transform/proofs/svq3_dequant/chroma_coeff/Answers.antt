-- The entry at the chroma index.
use Rattle.std.proofs.Common.{◌∙◌, ap}
use Rattle.transform.specs.Tables.{dequant_coeff, chroma_coeff}
use Rattle.transform.proofs.svq3_dequant.chroma_coeff.Goals as goal

pub returns : goal.returns
unfolding chroma_coeff
returns c = c.dequant_coeff.ensures ∙ ap dequant_coeff c.chroma_quantiser_index.ensures
