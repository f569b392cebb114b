-- `vectors::svq3_mb::Partition::of_mode` answers a partition by the bytes of its mode, in cells, and it lies in its macroblock.
use mathlib.Core.Path.{◌≡◌, refl, ◌∙◌}
use Prim.Native.Nat.{◌/◌}
use native.Mathlib.Omega.{arith}
use Rattle.vectors.specs.Modes.{partition_width, partition_height}
use Rattle.vectors.proofs.Partitions.{mode-byte, InCells, in_cells}
use Rattle.vectors.proofs.svq3_mb.Partition.of_mode.Goals.{After-of_mode-high}
use Rattle.vectors.proofs.svq3_mb.Partition.of_mode.Goals as goal

wide : (c : After-of_mode-high) → c.of_mode-wide.result ≡ partition_width c.args.mode / 4
unfolding partition_width
wide c = c.of_mode-wide.ensures ∙ mode-byte _ (λ m. partition_width m / 4) tt c.args.mode c.requires.0

high : (c : After-of_mode-high) → c.of_mode-high.result ≡ partition_height c.args.mode / 4
unfolding partition_height
high c = c.of_mode-high.ensures ∙ mode-byte _ (λ m. partition_height m / 4) tt c.args.mode c.requires.0

here : (c : After-of_mode-high) → InCells c.args.mode c.args.i
here c = in_cells c.args.mode c.args.i c.requires.0 c.requires.1

pub overflow_mul-result : goal.overflow_mul-result
overflow_mul-result c = rw (wide c) (record { fits = omega (arith, (here c).product) })

pub overflow_mul-result-2 : goal.overflow_mul-result-2
overflow_mul-result-2 c = rw (wide c) (record { fits = omega (arith, (here c).product) })

pub overflow_mul-result-3 : goal.overflow_mul-result-3
overflow_mul-result-3 c = rw (wide c, high c, (here c).y) (record { fits = omega (arith, (here c).part.down) })

pub invariant_of-result : goal.invariant_of-result
invariant_of-result c = record { lies = rw (wide c, high c, (here c).x, (here c).y) (here c).part }

pub returns-clause-in_cells : goal.returns-clause-in_cells
returns-clause-in_cells c =
    let d = (goal.at.returns-clause-in_cells c).After-of_mode-high in
    let h = here d in
    rw (wide d, high d) (h.x, h.y, refl, refl)

pub returns-clause-in_samples : goal.returns-clause-in_samples
returns-clause-in_samples c =
    let d = (goal.at.returns-clause-in_samples c).After-of_mode-high in
    let h = here d in
    rw (wide d, high d, h.x, h.y) (h.x-in_samples, h.y-in_samples, h.wide-in_samples, h.high-in_samples)
