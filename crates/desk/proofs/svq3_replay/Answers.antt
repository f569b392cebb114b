-- `svq3_replay`: the counts are asked for, then the transcript is replayed.
use mir.Syntax.{w64}
use Rattle.ints.proofs.Fits.{back}
use Rattle.desk.specs.Given.{frame_of}
use Rattle.desk.specs.Entries.{Slices, slices_of}
use Rattle.desk.proofs.Entries.{replay-short, replay-done}
use Rattle.desk.proofs.svq3_replay.Goals.{Start}
use Rattle.desk.proofs.svq3_replay.Goals as goal

abbrev S : Start → Slices
S s = slices_of s.args.y.now s.args.cb.now s.args.cr.now s.args.mv.now s.args.marks.now s.args.transcript.now s.args.counts.now

pub returns-then-counts-lt-REPLAY_COUNTS : goal.returns-then-counts-lt-REPLAY_COUNTS
returns-then-counts-lt-REPLAY_COUNTS c =
    replay-short (frame_of c.args.cols c.args.rows 0 0) c.args.quantiser c.args.ry.now c.args.rcb.now c.args.rcr.now (S (goal.at.returns-then-counts-lt-REPLAY_COUNTS c).Start) c.if-counts-lt-REPLAY_COUNTS.true

pub returns : goal.returns
returns c =
    let f = c.frame_of-frame in
    let k = c.replay-answer in
    let t = c.tell_replay in
    replay-done (frame_of c.args.cols c.args.rows 0 0) c.args.quantiser c.args.ry.now c.args.rcb.now c.args.rcr.now (S (goal.at.returns c).Start) f.result f.ensures k.new.y k.new.cb k.new.cr k.new.mv k.new.marks c.args.transcript.now t.new.counts _ k.result c.if-counts-lt-REPLAY_COUNTS.false k.ensures (back w64 t.type_inv t.ensures.0) t.ensures.1
