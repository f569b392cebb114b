-- `replay::redo::replay_coded`: the motion is read into zeros, and the record that it makes is applied.
use mathlib.Core.Path.{refl, ap}
use Rattle.picture.specs.InnerLent.{contents}
use Rattle.picture.proofs.Lent.{stays}
use Rattle.record.specs.InnerRecord.{record_of}
use Rattle.record.specs.Record.{no_vectors}
use Rattle.levels.specs.Items.{no_levels}
use Rattle.transcript.proofs.Places.{coded-read}
use Rattle.state.specs.State.{State}
use Rattle.macroblock.specs.InnerSource.{state_by}
use Rattle.replay.proofs.Steps.{no-motion, coded-range, no-skip, coded-step, applied-is}
use Rattle.replay.proofs.redo.replay_coded.Goals.{Start}
use Rattle.replay.proofs.redo.replay_coded.Goals as goal

abbrev S : Start → State
S c = state_by c.args.frame c.args.before.quantiser c.args.reference (contents c.args.pic.now)

pub parse_motion-requires : goal.parse_motion-requires
unfolding no_vectors no_levels
parse_motion-requires c =
    (refl, refl, (coded-read c.args.frame.grid.cols c.args.frame.grid.rows c.args.bytes.now c.args.at c.args.head c.args.before.next c.requires.cols_bound.2).range.mode)

pub returns-in_default : goal.returns-in_default
returns-in_default c =
    record {
      stepped = no-motion (S (goal.at.returns-in_default c).Start) c.args.bytes.now c.args.at c.args.head c.args.before.next c.requires.cols_bound.2 _ _ _ c.parse_motion.ensures _ c.in_default.is _ _;
      same_slices = refl;
      sized = c.requires.all_sized;
    }

pub invariant_of-coded : goal.invariant_of-coded
invariant_of-coded c =
    let m = c.parse_motion in
    let is = c.in-Ok.is in
    let s = S (goal.at.invariant_of-coded c).Start in
    record {
      wide = c.requires.cols_bound.0;
      high = c.requires.cols_bound.1;
      range = coded-range s c.args.bytes.now c.args.at c.args.head c.args.before.next c.requires.cols_bound.2 _ _ _ m.ensures _ _ is c.requires.cols_bound.0 c.requires.cols_bound.1;
      some = no-skip s c.args.bytes.now c.args.at c.args.head c.args.before.next c.requires.cols_bound.2 _ _ _ m.ensures _ _ is;
    }

pub apply_coded-requires : goal.apply_coded-requires
apply_coded-requires c = c.requires.all_sized

pub returns : goal.returns
returns c =
    let m = c.parse_motion in
    let e = c.apply_coded.ensures.applied in
    let coded = c.in-Ok.head in
    let is = c.in-Ok.is in
    let s = S (goal.at.returns c).Start in
    record {
      stepped = coded-step s c.args.bytes.now c.args.at c.args.head c.args.before.next c.requires.cols_bound.2 _ _ _ m.ensures _ _ is _
          (applied-is s (record_of coded m.new.vectors m.new.levels) (no-skip s c.args.bytes.now c.args.at c.args.head c.args.before.next c.requires.cols_bound.2 _ _ _ m.ensures _ _ is) (ap contents e));
      same_slices = stays c.args.pic.now e;
      sized = c.apply_coded.ensures.sized;
    }
