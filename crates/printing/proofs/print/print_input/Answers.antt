-- `printing::print::print_input`: the header, the list, and the run of the list over the bits behind it.
use mathlib.Core.Path.{sym, ◌∙◌}
use Prim.Native.Nat.{◌≤◌}
use native.Mathlib.Omega.{arith}
use lib.ListN.{length}
use Rattle.printing.proofs.Texts.{written_as, refused-length}
use Rattle.printing.proofs.Inputs.{header_refused, range, list-refused, forward, within, printed-is}
use Rattle.printing.proofs.print.print_input.Goals.{In-Ok-read_list}
use Rattle.printing.proofs.print.print_input.Goals as goal

ends-behind : (c : In-Ok-read_list) → c.in-Ok.at ≤ c.in-Ok-read_list.end
ends-behind c = forward c.args.input.now (sym c.in-Ok.is ∙ c.read_header.ensures) (sym c.in-Ok-read_list.is ∙ c.read_list.ensures)

ends-within : (c : In-Ok-read_list) → c.in-Ok-read_list.end ≤ length c.args.input.now
ends-within c = within c.args.input.now (sym c.in-Ok.is ∙ c.read_header.ensures) (sym c.in-Ok-read_list.is ∙ c.read_list.ensures)

pub print_list-requires : goal.print_list-requires
print_list-requires c = range c.args.input.now (sym c.in-Ok.is ∙ c.read_header.ensures)

pub returns-in-Ok-read_list : goal.returns-in-Ok-read_list
returns-in-Ok-read_list c =
    (c.print_list.ensures.0, written_as (printed-is c.args.input.now (sym c.in-Ok.is ∙ c.read_header.ensures) (sym c.in-Ok-read_list.is ∙ c.read_list.ensures)) c.print_list.ensures.1)

pub returns-in-Err-read_list : goal.returns-in-Err-read_list
returns-in-Err-read_list c =
    let w = c.put_refused.ensures in
    (omega (arith, w.moved, refused-length c.in-Err-read_list.why), written_as (list-refused c.args.input.now (sym c.in-Ok.is ∙ c.read_header.ensures) (sym c.in-Err-read_list.is ∙ c.read_list.ensures)) w)

pub returns-in-Err : goal.returns-in-Err
returns-in-Err c =
    let w = c.put_refused-in-Err.ensures in
    (omega (arith, w.moved, refused-length c.in-Err.why), written_as (header_refused c.args.input.now (sym c.in-Err.is ∙ c.read_header.ensures)) w)

pub slice_bounds-print_list-end : goal.slice_bounds-print_list-end
slice_bounds-print_list-end c = ends-within (goal.at.slice_bounds-print_list-end c).In-Ok-read_list

pub slice_bounds-print_list-count-in-Ok-read_list : goal.slice_bounds-print_list-count-in-Ok-read_list
slice_bounds-print_list-count-in-Ok-read_list c = ends-within (goal.at.slice_bounds-print_list-count-in-Ok-read_list c).In-Ok-read_list

pub slice_bounds-print_list-start-in-Ok-read_list : goal.slice_bounds-print_list-start-in-Ok-read_list
slice_bounds-print_list-start-in-Ok-read_list c = ends-within (goal.at.slice_bounds-print_list-start-in-Ok-read_list c).In-Ok-read_list

pub put_refused-requires : goal.put_refused-requires
put_refused-requires c = omega (arith, refused-length c.in-Err-read_list.why)

pub put_refused-requires-in-Err : goal.put_refused-requires-in-Err
put_refused-requires-in-Err c = omega (arith, refused-length c.in-Err.why)
