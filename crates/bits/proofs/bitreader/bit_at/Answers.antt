-- `bits::bitreader::bit_at` answers the bit at its place.
use mathlib.Core.Path.{sym}
use Rattle.bits.proofs.BitAt.{bit_at}
use Rattle.bits.proofs.bitreader.bit_at.Goals as goal

pub returns : goal.returns
returns c = sym (bit_at c.args.bits.now c.args.at c.requires)
