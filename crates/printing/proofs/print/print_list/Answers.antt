-- `printing::print::print_list`: the run's report and the part of its transcript that it filled.
use Rattle.printing.specs.Print.{room}
use Rattle.printing.proofs.Texts.{written_as}
use Rattle.printing.proofs.Runs.{fill-there, part_count, part-most, part-recorded, lines_are}
use Rattle.printing.proofs.print.print_list.Goals as goal

pub slice_bounds-transcript-end : goal.slice_bounds-transcript-end
unfolding room
slice_bounds-transcript-end c = let a = c.args in fill-there a.h a.list.now a.bits.now c.run_start-report.ensures

pub slice_bounds-transcript-end-2 : goal.slice_bounds-transcript-end-2
unfolding room
slice_bounds-transcript-end-2 c = let a = c.args in part_count a.h a.list.now a.bits.now c.run_start-report.ensures

pub put_run-requires : goal.put_run-requires
unfolding room
put_run-requires c =
    let a = c.args in
    let e = c.run_start-report.ensures in
    (part-recorded a.h a.list.now a.bits.now e, part-most a.h a.list.now a.bits.now e)

pub returns : goal.returns
unfolding room
returns c =
    let a = c.args in
    (c.put_run.ensures.0, written_as (lines_are a.h a.list.now a.bits.now c.run_start-report.ensures) c.put_run.ensures.1)
