-- `svq3_macroblock`: the counts are asked for, then the macroblock is decoded.
use mir.Syntax.{w64}
use Rattle.ints.proofs.Fits.{back}
use Rattle.desk.specs.Given.{frame_of}
use Rattle.desk.specs.Entries.{Slices, slices_of, call_of}
use Rattle.desk.proofs.Entries.{mb-short, mb-done}
use Rattle.desk.proofs.svq3_macroblock.Goals.{Start}
use Rattle.desk.proofs.svq3_macroblock.Goals as goal

abbrev S : Start → Slices
S s = slices_of s.args.y.now s.args.cb.now s.args.cr.now s.args.mv.now s.args.marks.now s.args.transcript.now s.args.counts.now

pub returns-then-counts-lt-MB_COUNTS : goal.returns-then-counts-lt-MB_COUNTS
returns-then-counts-lt-MB_COUNTS c =
    mb-short (frame_of c.args.cols c.args.rows c.args.flags c.args.delta) c.args.quantiser c.args.ry.now c.args.rcb.now c.args.rcr.now (S (goal.at.returns-then-counts-lt-MB_COUNTS c).Start) (call_of c.args.column c.args.row c.args.mode) c.args.bits.now c.args.place c.args.fill c.if-counts-lt-MB_COUNTS.true

pub returns : goal.returns
returns c =
    let f = c.frame_of-frame in
    let k = c.decode_inter_mb-answer in
    let t = c.tell_macroblock in
    mb-done (frame_of c.args.cols c.args.rows c.args.flags c.args.delta) c.args.quantiser c.args.ry.now c.args.rcb.now c.args.rcr.now (S (goal.at.returns c).Start) f.result f.ensures k.new.y k.new.cb k.new.cr k.new.mv k.new.marks k.new.transcript t.new.counts _ (call_of c.args.column c.args.row c.args.mode) c.args.bits.now c.args.place c.args.fill k.result c.if-counts-lt-MB_COUNTS.false k.ensures (back w64 t.type_inv t.ensures.0) t.ensures.1
