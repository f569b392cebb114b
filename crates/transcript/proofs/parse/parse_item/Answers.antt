-- `transcript::parse::parse_item`: sixteen short numbers are what their bytes stand for; others are read one after another.
use mathlib.Core.Path.{sym, ◌∙◌}
use native.Mathlib.Omega.{arith}
use lib.ListN.{drop, length-set}
use Rattle.levels.proofs.ListKinds.{start-most, start-in}
use Rattle.levels.proofs.Lists.{within}
use Rattle.transcript.proofs.Received.{short-ahead, short-there, short-left}
use Rattle.transcript.proofs.Reading.{part-filled, item-stored, item-left}
use Rattle.transcript.proofs.parse.parse_item.Goals as goal

pub overflow_sub-at : goal.overflow_sub-at
overflow_sub-at c = let a = c.args in short-ahead a.bytes.now a.at _ (sym c.short_at.ensures ∙ c.if-short_at.true)

pub take_received-t-requires : goal.take_received-t-requires
take_received-t-requires c = let a = c.args in short-there a.bytes.now a.at _ (sym c.short_at.ensures ∙ c.if-short_at.true)

pub store_received-requires : goal.store_received-requires
store_received-requires c = (
  omega (arith, start-most c.args.i, c.item_start-start.ensures),
  omega (arith, within c.args.i c.requires, c.item_place-place.ensures, c.item_count-count.ensures, c.if-count-eq16.true),
)

pub overflow_sub-result : goal.overflow_sub-result
overflow_sub-result c = let a = c.args in short-ahead a.bytes.now a.at _ (sym c.short_at.ensures ∙ c.if-short_at.true)

pub overflow_add-result : goal.overflow_add-result
overflow_add-result c = let a = c.args in omega (arith, short-there a.bytes.now a.at _ (sym c.short_at.ensures ∙ c.if-short_at.true))

pub returns-then-short_at : goal.returns-then-short_at
returns-then-short_at c =
    let a = c.args in
    let e = sym c.short_at.ensures ∙ c.if-short_at.true in
    let m = start-most a.i in
    item-left a.i a.at a.levels.now (drop a.at a.bytes.now) _ _ 16 _ _ c.item_place-place.ensures c.item_start-start.ensures (sym c.if-count-eq16.true ∙ c.item_count-count.ensures)
    (short-left a.bytes.now a.at _ e (omega (arith, m, c.item_start-start.ensures)) a.levels.now _ _ _ c.take_received-t.ensures c.store_received.ensures)

pub offset_bounds-levels-place : goal.offset_bounds-levels-place
offset_bounds-levels-place c = omega (arith, within c.args.i c.requires, c.item_place-place.ensures)

pub bounds-levels-place : goal.bounds-levels-place
bounds-levels-place c = omega (arith, within c.args.i c.requires, start-in c.args.i, c.item_place-place.ensures)

pub overflow_add-place : goal.overflow_add-place
overflow_add-place c =
    omega (arith, within c.args.i c.requires, start-most c.args.i, c.item_place-place.ensures, c.item_start-start.ensures)

pub overflow_add-place-2 : goal.overflow_add-place-2
overflow_add-place-2 c = omega (arith, within c.args.i c.requires, c.item_place-place.ensures, c.item_count-count.ensures)

pub offset_bounds-levels-place-2 : goal.offset_bounds-levels-place-2
offset_bounds-levels-place-2 c = omega (arith, within c.args.i c.requires, start-in c.args.i, c.item_place-place.ensures, c.item_start-start.ensures, c.item_count-count.ensures)

pub slice_bounds-read_signed_numbers-count : goal.slice_bounds-read_signed_numbers-count
slice_bounds-read_signed_numbers-count c = omega (arith, start-in c.args.i, c.item_start-start.ensures, c.item_count-count.ensures)

pub slice_bounds-read_signed_numbers-start : goal.slice_bounds-read_signed_numbers-start
slice_bounds-read_signed_numbers-start c = omega (arith, start-in c.args.i, c.item_start-start.ensures, c.item_count-count.ensures)

pub slice_bounds-read_signed_numbers-end : goal.slice_bounds-read_signed_numbers-end
slice_bounds-read_signed_numbers-end c = omega (arith, within c.args.i c.requires, c.item_place-place.ensures, c.item_count-count.ensures)

pub returns : goal.returns
returns c =
    let a = c.args in
    item-stored a.i a.at a.levels.now (drop a.at a.bytes.now) _ _ _ _ _ c.item_place-place.ensures c.item_start-start.ensures c.item_count-count.ensures
    (part-filled a.at (drop a.at a.bytes.now) _ _ _ _ _ _
    (omega (arith, start-in a.i, c.item_start-start.ensures, c.item_count-count.ensures))
    (simp length-set (omega (arith, within a.i c.requires, c.item_place-place.ensures, c.item_count-count.ensures, c.told-levels)))
    c.read_signed_numbers.ensures)
