-- `vectors::svq3_mb::read_inter_mv_precision_p_frame` answers `precision` at its place, by the flags.
use native.Mathlib.Nat.{add-zero}
use Rattle.vectors.specs.Precision.{precision}
use Rattle.vectors.proofs.svq3_mb.read_inter_mv_precision_p_frame.Goals as goal

pub returns-in-true-true : goal.returns-in-true-true
unfolding precision
returns-in-true-true c = rw (c.in-true-true.is-0, c.in-true-true.is-1) c.both_flags.ensures

pub returns-in-true-false : goal.returns-in-true-false
unfolding precision
returns-in-true-false c = rw (c.in-true-false.is-0, c.in-true-false.is-1) c.one_flag.ensures

pub returns-in-false-true : goal.returns-in-false-true
unfolding precision
returns-in-false-true c = rw (c.in-false-true.is-0, c.in-false-true.is-1) c.one_flag-in-false-true.ensures

pub returns-in-false-false : goal.returns-in-false-false
unfolding precision
returns-in-false-false c = rw (c.in-false-false.is-0, c.in-false-false.is-1, add-zero)
