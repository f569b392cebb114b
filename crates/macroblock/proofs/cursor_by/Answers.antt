-- `cursor_by` meets its contract: by the answer.
use Rattle.macroblock.proofs.cursor_by.Goals as goal

pub returns-in-Ok : goal.returns-in-Ok
returns-in-Ok c = rw c.in-Ok.is

pub returns-in-Err : goal.returns-in-Err
returns-in-Err c = rw c.in-Err.is
