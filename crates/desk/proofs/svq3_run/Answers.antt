-- `svq3_run`: the counts are asked for, then the run is made.
use mir.Syntax.{w64}
use Rattle.ints.proofs.Fits.{back}
use Rattle.desk.specs.Given.{frame_of}
use Rattle.desk.specs.Entries.{Slices, slices_of}
use Rattle.desk.proofs.Entries.{run_short, run-done}
use Rattle.desk.proofs.svq3_run.Goals.{Start}
use Rattle.desk.proofs.svq3_run.Goals as goal

abbrev S : Start → Slices
S s = slices_of s.args.y.now s.args.cb.now s.args.cr.now s.args.mv.now s.args.marks.now s.args.transcript.now s.args.counts.now

pub returns-then-counts-lt-RUN_COUNTS : goal.returns-then-counts-lt-RUN_COUNTS
returns-then-counts-lt-RUN_COUNTS c =
    run_short (frame_of c.args.cols c.args.rows c.args.flags c.args.delta) c.args.quantiser c.args.ry.now c.args.rcb.now c.args.rcr.now (S (goal.at.returns-then-counts-lt-RUN_COUNTS c).Start) c.args.calls.now c.args.bits.now c.args.place c.if-counts-lt-RUN_COUNTS.true

pub returns : goal.returns
returns c =
    let f = c.frame_of-frame in
    let k = c.run-report in
    let t = c.tell_run in
    run-done (frame_of c.args.cols c.args.rows c.args.flags c.args.delta) c.args.quantiser c.args.ry.now c.args.rcb.now c.args.rcr.now (S (goal.at.returns c).Start) f.result f.ensures k.new.y k.new.cb k.new.cr k.new.mv k.new.marks k.new.transcript t.new.counts _ c.args.calls.now c.args.bits.now c.args.place k.result c.if-counts-lt-RUN_COUNTS.false k.ensures (back w64 t.type_inv t.ensures.0) t.ensures.1
