-- `reading::svq3_frame::move_partition` makes `moved` of what was read before.
use mathlib.Core.Path.{◌≡◌, refl, ap, ◌∙◌}
use Prim.Native.Nat.{◌≤◌}
use native.Mathlib.Omega.{arith}
use borrow.Author.Rules.{rules}
use lib.IntN.{nat_abs}
use Rattle.bits.specs.Code.{bit_value}
use Rattle.vectors.proofs.Partitions.{num-most}
use Rattle.vectors.proofs.Moves.{field-read}
use Rattle.reading.proofs.Vectors.{value-most}
use Rattle.reading.proofs.Partitions.{held_at, moved_at}
use Rattle.reading.proofs.svq3_frame.move_partition.Goals.{After-predict_mv-from}
use Rattle.reading.proofs.svq3_frame.move_partition.Goals as goal
use Rattle.std.specs.Prelude.{Bool, true, false}
use Rattle.std.specs.Int.{from_bool}

held : (c : After-predict_mv-from) → (nat_abs c.predict_mv-from.result.x.0 ≤ 393216) × (nat_abs c.predict_mv-from.result.y.0 ≤ 393216)
held c = held_at c.args.motion c.args.i c.of_mode-part.result c.of_mode-part.ensures.in_cells c.requires.holds.1.follows c.predict_mv-from.ensures

counts : (b : Bool) → from_bool b ≡ bit_value b
counts true = refl
counts false = refl

pub bounds-vectors-i : goal.bounds-vectors-i
bounds-vectors-i c = omega (arith, num-most c.args.motion.mb.call.mode c.args.motion.mb.mode, c.requires.index.0)

pub bounds-vectors-i-2 : goal.bounds-vectors-i-2
bounds-vectors-i-2 c = omega (arith, num-most c.args.motion.mb.call.mode c.args.motion.mb.mode, c.requires.index.0)

pub overflow_add-result : goal.overflow_add-result
overflow_add-result c = omega (arith, c.from.ensures, counts c.move_component-mx.result.clipped, value-most c.move_component-mx.result.clipped, c.requires.index.1)

pub overflow_add-result-2 : goal.overflow_add-result-2
overflow_add-result-2 c = omega (arith, c.from-2.ensures, counts c.move_component-my.result.clipped, c.from.ensures, counts c.move_component-mx.result.clipped, value-most c.move_component-mx.result.clipped, value-most c.move_component-my.result.clipped, c.requires.index.1)

pub returns : goal.returns
returns c m t =
    let a = c.args in
    let mx = c.move_component-mx in
    let my = c.move_component-my in
    let st = c.store_partition in
    moved_at a.motion a.i c.of_mode-part.result c.of_mode-part.ensures.in_cells a.dx.0 a.dy.0 m t c.predict_mv-from.ensures
    (record { x = mx.result.value; y = my.result.value }) mx.ensures.value_value my.ensures.value_value
    (c.from.ensures ∙ counts mx.result.clipped ∙ ap bit_value mx.ensures.clipped_value)
    (c.from-2.ensures ∙ counts my.result.clipped ∙ ap bit_value my.ensures.clipped_value)
    (field-read mx.result.value.0 (search rules)) (field-read my.result.value.0 (search rules))
    st.ensures.vectors_after st.ensures.marks_after

pub move_component-mx-requires : goal.move_component-mx-requires
move_component-mx-requires c = (held (goal.at.move_component-mx-requires c).After-predict_mv-from).0

pub move_component-my-requires : goal.move_component-my-requires
move_component-my-requires c = (held (goal.at.move_component-my-requires c).After-predict_mv-from).1

pub offset_bounds-vectors-i : goal.offset_bounds-vectors-i
offset_bounds-vectors-i c = omega (arith, num-most c.args.motion.mb.call.mode c.args.motion.mb.mode, c.requires.index.0)

pub offset_bounds-vectors-i-2 : goal.offset_bounds-vectors-i-2
offset_bounds-vectors-i-2 c = omega (arith, num-most c.args.motion.mb.call.mode c.args.motion.mb.mode, c.requires.index.0)

pub overflow_mul-i : goal.overflow_mul-i
overflow_mul-i c = omega (arith, num-most c.args.motion.mb.call.mode c.args.motion.mb.mode, c.requires.index.0)

pub overflow_mul-i-2 : goal.overflow_mul-i-2
overflow_mul-i-2 c = omega (arith, num-most c.args.motion.mb.call.mode c.args.motion.mb.mode, c.requires.index.0)

pub overflow_add-i : goal.overflow_add-i
overflow_add-i c = omega (arith, num-most c.args.motion.mb.call.mode c.args.motion.mb.mode, c.requires.index.0)
