-- `vectors::svq3_mb::read_bit` answers the bit at its place, or that none is left.
use Rattle.bits.proofs.BitAt.{past, here}
use Rattle.vectors.specs.InnerPrecision.{first_bit}
use Rattle.vectors.proofs.svq3_mb.read_bit.Goals as goal

pub returns-then-bits-at : goal.returns-then-bits-at
unfolding first_bit
returns-then-bits-at c = rw (past c.args.bits.bytes.now c.args.at c.if-bits-at.true)

pub returns : goal.returns
unfolding first_bit
returns c = rw (c.bit_at.ensures, here c.args.bits.bytes.now c.args.at c.if-bits-at.false)
