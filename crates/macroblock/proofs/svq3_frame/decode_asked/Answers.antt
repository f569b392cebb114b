-- `decode_asked`: both ways are asked and ensure what it is asked and ensures; the mode is tested here.
use Rattle.macroblock.proofs.Laws.{some-mode}
use Rattle.macroblock.proofs.svq3_frame.decode_asked.Goals as goal

pub decode_skip-requires : goal.decode_skip-requires
decode_skip-requires c = record { fill_value = c.requires; mode_value = c.if-call-eq0.true }

pub decode_coded-requires : goal.decode_coded-requires
decode_coded-requires c = record { fill_value = c.requires; mode_nonzero = some-mode _ c.if-call-eq0.false }

pub returns-then-call-eq0 : goal.returns-then-call-eq0
returns-then-call-eq0 c = c.decode_skip.ensures

pub returns-else-call-eq0 : goal.returns-else-call-eq0
returns-else-call-eq0 c = c.decode_coded.ensures
