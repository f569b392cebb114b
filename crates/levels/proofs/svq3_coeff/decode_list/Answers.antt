-- `levels::svq3_coeff::decode_list`: each turn keeps `Reading` and a window of the bits at its place, and each way out is one of the laws of `Reading`.
use mathlib.Core.Path.{◌≡◌, sym, ap, ◌∙◌}
use Prim.Native.Nat.{◌+◌, ◌*◌, ◌^◌, ◌≤◌, ◌<◌}
use native.Mathlib.Omega.{arith}
use borrow.Author.Rules.{rules}
use mir.Syntax.{w32}
use mir.Val.{to_z, of_z}
use Rattle.bits.specs.Bits.{bit_list}
use lib.ListN.{drop}
use Rattle.std.specs.Prelude.{Ok, Some}
use Rattle.refusal.specs.Answered.{answered}
use Rattle.levels.specs.Book.{positions, LevelRun}
use Rattle.levels.specs.Levels.{level_run}
use Rattle.levels.specs.InnerLevels.{told}
use Rattle.levels.specs.declared.svq3_coeff.ResidualBook.{ResidualBook}
use Rattle.levels.specs.declared.svq3_coeff.ResidualBook.TheVariants.{NormalScan, ChromaDc}
use Rattle.levels.proofs.Reading.{begins, same-room, room-now, run-told, next-reading, refused-answer, past-answer, end-answer}
use Rattle.levels.proofs.Rasters.{position-back}
use Rattle.levels.proofs.svq3_coeff.decode_list.Goals.{After-place_of-place, In-Some}
use Rattle.levels.proofs.svq3_coeff.decode_list.Goals as goal

few : (book : ResidualBook) → positions book ≤ 16
few NormalScan = omega arith
few ChromaDc = omega arith

placed : (c : After-place_of-place) → c.place_of-place.result < positions c.args.book
placed c =
    let b = (position-back c.args.book (c.loop-taken.position + c.in-Some.run') (omega (arith, c.if-count-reached.false, c.loop-taken.invariant.1))).1 in
    omega (arith, c.place_of-place.ensures)

-- the place is one of a slice
small : (c : After-place_of-place) → (c.args.base + c.place_of-place.result) * 4 < 2 ^ 64
small c =
    let e = same-room c.loop-taken.invariant.0 ∙ c.clear_list.auto.out in
    omega (arith, placed c, room-now c.loop-taken.invariant.0, e, c.well_formed.0)

-- what the code there says
said : (c : In-Some) → Ok (Some (c.in-Some.level, c.in-Some.run'), c.in-Ok.taken.next) ≡ answered c.loop-taken.p (level_run c.args.book (drop c.loop-taken.p (bit_list c.args.bits.bytes.now)))
said c = sym (ap (λ (x : LevelRun). Ok (x, c.in-Ok.taken.next)) c.in-Some.is) ∙ sym (ap told c.in-Ok.is) ∙ c.next_level.ensures.says

pub loop-taken-init : goal.loop-taken-init
loop-taken-init c =
    let a = c.args in
    (begins a.book a.base a.out.now _ c.clear_list.ensures a.start a.at (bit_list a.bits.bytes.now) c.requires.1 c.requires.0, c.positions_of-count.ensures, c.window_at-window.ensures)

pub overflow_add-reached : goal.overflow_add-reached
overflow_add-reached c =
    let r = run-told c.loop-taken.invariant.0 c.in-Some.level c.in-Some.run' c.in-Ok.taken.next (said c) in
    omega (arith, r, few c.args.book, c.loop-taken.invariant.0.within)

pub returns-then-count-reached : goal.returns-then-count-reached
returns-then-count-reached c =
    past-answer c.loop-taken.invariant.0 _ c.clear_list.ensures _ c.in-Some.level c.in-Some.run' c.in-Ok.taken.next c.clear_list-then-count-reached.ensures (said (goal.at.returns-then-count-reached c).In-Some) (omega (arith, c.if-count-reached.true, c.loop-taken.invariant.1))

pub overflow_add-level : goal.overflow_add-level
overflow_add-level c = omega (arith, small c)

pub offset_bounds-out-base : goal.offset_bounds-out-base
offset_bounds-out-base c = omega (arith, small c)

pub bounds-out-base : goal.bounds-out-base
bounds-out-base c = omega (arith, placed c, room-now c.loop-taken.invariant.0)

pub loop-taken-preserved : goal.loop-taken-preserved
loop-taken-preserved c =
    let z : to_z w32 (of_z w32 c.in-Some.level) ≡ c.in-Some.level = search rules in
    (next-reading c.loop-taken.invariant.0 c.in-Some.level c.in-Some.run' c.in-Ok.taken.next (said (goal.at.loop-taken-preserved c).In-Some) _ _ (omega (arith, c.if-count-reached.false, c.loop-taken.invariant.1)) c.place_of-place.ensures z, c.loop-taken.invariant.1, c.next_level.ensures.shows c.in-Ok.taken c.in-Some.level c.in-Some.run' c.in-Ok.is c.in-Some.is)

pub returns-in_default : goal.returns-in_default
returns-in_default c =
    let t = c.in-Ok.taken in
    end-answer c.loop-taken.invariant.0 _ c.clear_list.ensures _ (sym (ap (λ (x : LevelRun). Ok (x, t.next)) c.in_default.is) ∙ sym (ap told c.in-Ok.is) ∙ c.next_level.ensures.says)

pub returns-in-Err : goal.returns-in-Err
returns-in-Err c = refused-answer c.loop-taken.invariant.0 _ c.clear_list.ensures _ _ c.clear_list-in-Err.ensures (sym (ap told c.in-Err.is) ∙ c.next_level.ensures.says)
