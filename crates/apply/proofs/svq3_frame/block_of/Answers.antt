-- `apply::svq3_frame::block_of` meets its contract.
use mathlib.Core.Path.{ap, ◌∙◌}
use Prim.Native.Nat.{ℕ, ◌+◌, ◌*◌, ◌/◌}
use native.Mathlib.Omega.{arith}
use Rattle.vectors.proofs.Partitions.{inside}
use Rattle.apply.specs.Moved.{unit, part_x, part_y}
use Rattle.apply.proofs.Partitions.{few}
use Rattle.apply.proofs.svq3_frame.block_of.Goals as goal

pub overflow_add-column : goal.overflow_add-column
overflow_add-column c = omega (arith, c.of_mode-part.ensures.in_samples.0, inside c.args.mb.call.mode c.args.i c.args.mb.mode c.requires)

pub overflow_add-row : goal.overflow_add-row
overflow_add-row c = omega (arith, c.of_mode-part.ensures.in_samples.1, inside c.args.mb.call.mode c.args.i c.args.mb.mode c.requires)

pub returns : goal.returns
unfolding part_x part_y
returns c =
    let a = c.args in
    let u = unit a.chroma in
    let part = c.of_mode-part.ensures.in_samples in
    let stride = ap (λ (n : ℕ). n * a.mb.grid.cols) c.over.ensures in
    let x = c.over-2.ensures ∙ ap (λ (o : ℕ). (16 * a.mb.call.column + o) / u) part.0 in
    let y = c.over-3.ensures ∙ ap (λ (o : ℕ). (16 * a.mb.call.row + o) / u) part.1 in
    let w = c.over-4.ensures ∙ ap (λ (o : ℕ). o / u) part.2 in
    let h = c.over-5.ensures ∙ ap (λ (o : ℕ). o / u) part.3 in
    λ j. record { stride = stride j; x = x j; y = y j; w = w j; h = h j }

pub overflow_mul-result : goal.overflow_mul-result
overflow_mul-result c = omega (arith, few c.args.chroma _ c.args.mb.grid.cols c.over.ensures c.args.mb.within.wide)
