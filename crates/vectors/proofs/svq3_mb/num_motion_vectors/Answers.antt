-- `vectors::svq3_mb::num_motion_vectors` answers `num_motion_vectors`: the byte is the definition's entry.
use mathlib.Core.Path.{◌∙◌}
use Rattle.vectors.specs.Modes.{num_motion_vectors}
use Rattle.vectors.proofs.Partitions.{mode-byte}
use Rattle.vectors.proofs.svq3_mb.num_motion_vectors.Goals as goal

pub returns : goal.returns
unfolding num_motion_vectors
returns c = c.of_mode.ensures ∙ mode-byte _ num_motion_vectors tt c.args.mode c.requires
