-- `decode_skip`: what yes to the questions tells is what writing and applying ask.
use mathlib.Core.Path.{ap}
use native.Mathlib.Omega.{arith}
use Rattle.picture.specs.InnerPicture.{Within}
use Rattle.state.specs.State.{State}
use Rattle.picture.specs.InnerLent.{contents}
use Rattle.picture.proofs.Lent.{stays}
use Rattle.macroblock.specs.InnerSource.{state_of_source}
use Rattle.macroblock.proofs.Laws as laws
use Rattle.macroblock.proofs.svq3_frame.decode_skip.Goals.{Start}
use Rattle.macroblock.proofs.svq3_frame.decode_skip.Goals as goal

abbrev S : Start → State
S c = state_of_source c.args.source c.args.cursor.quantiser (contents c.args.pic.now)

facts_at : (s : Start) → laws.Facts (S s) s.args.call s.args.source.bits.now s.args.cursor.place s.args.transcript.now s.args.fill s.requires.fill_value
facts_at s = laws.facts (S s) s.args.call s.args.source.bits.now s.args.cursor.place s.args.transcript.now s.args.fill s.requires.fill_value

within-at : (s : Start) → Within (S s).cols (S s).rows s.args.call.column s.args.call.row
within-at s = laws.within (S s) s.args.call s.args.source.bits.now s.args.cursor.place s.args.transcript.now s.args.fill s.requires.fill_value

pub put_skip-fill-requires : goal.put_skip-fill-requires
put_skip-fill-requires c = let g = within-at (goal.at.put_skip-fill-requires c).Start in (omega (arith, g.across, g.wide), omega (arith, g.down, g.high), omega (arith, laws.room (S (goal.at.put_skip-fill-requires c).Start) c.args.call c.args.source.bits.now c.args.cursor.place c.args.transcript.now c.args.fill c.requires.fill_value))

pub apply_skip-requires : goal.apply_skip-requires
apply_skip-requires c = let f = facts_at (goal.at.apply_skip-requires c).Start in record { within = within-at (goal.at.apply_skip-requires c).Start; all_sized = f.sized }

pub returns-clause-same_slices : goal.returns-clause-same_slices
returns-clause-same_slices c = stays c.args.pic.now c.apply_skip.ensures.applied

pub returns-clause-left : goal.returns-clause-left
returns-clause-left c = let a = c.apply_skip in let w = c.put_skip-fill in laws.skipped (S (goal.at.returns-clause-left c).Start) c.args.call c.args.source.bits.now c.args.cursor.place c.args.transcript.now c.args.fill c.requires.fill_value c.requires.mode_value w.result _ w.new.out w.ensures (ap contents a.ensures.applied)
