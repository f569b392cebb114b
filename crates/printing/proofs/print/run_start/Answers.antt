-- `printing::print::run_start`: parts of the buffers make the start.
use Rattle.printing.proofs.Starts.{left-from}
use Rattle.printing.proofs.print.run_start.Goals as goal

pub returns : goal.returns
returns c = left-from c.args.h _ c.macroblocks-n.ensures c.from.ensures c.args.list.now c.args.bits.now c.args.transcript.now c.run.ensures
