-- `replay::redo::replay_record`: place and mode are read; a skip is applied, and another record goes on.
use mathlib.Core.Path.{refl, sym, ap, ◌∙◌}
use Rattle.picture.specs.InnerLent.{contents}
use Rattle.picture.proofs.Lent.{stays}
use Rattle.std.specs.Prelude.{Ok}
use Rattle.transcript.specs.declared.parse.RecordStart.{RecordStart}
use Rattle.transcript.proofs.Places.{skip_read}
use Rattle.state.specs.State.{State}
use Rattle.macroblock.specs.InnerSource.{state_by}
use Rattle.replay.proofs.Steps.{no_place, skip_step, skip-applied}
use Rattle.replay.proofs.redo.replay_record.Goals.{Start}
use Rattle.replay.proofs.redo.replay_record.Goals as goal

abbrev S : Start → State
S c = state_by c.args.frame c.args.quantiser c.args.reference (contents c.args.pic.now)

pub apply_skip-requires : goal.apply_skip-requires
apply_skip-requires c =
    let r = skip_read c.args.frame.grid.cols c.args.frame.grid.rows c.args.bytes.now c.args.at _ _ _ (sym (ap (λ (x : RecordStart). Ok (x, c.in-Ok-Skip-default.next)) c.in-Ok-Skip-default.field-0-0-is) ∙ sym c.in-Ok-Skip-default.is ∙ c.parse_place.ensures) in
    record { within = record { across = r.across; down = r.down; wide = c.requires.cols_bound.0; high = c.requires.cols_bound.1 }; all_sized = c.requires.all_sized }

pub replay_coded-requires : goal.replay_coded-requires
replay_coded-requires c =
    record { cols_bound = (c.requires.cols_bound.0, c.requires.cols_bound.1, (sym (ap (λ (x : RecordStart). Ok (x, c.in-Ok-Coded-default.next)) c.in-Ok-Coded-default.field-0-0-is) ∙ sym c.in-Ok-Coded-default.is ∙ c.parse_place.ensures)); all_sized = c.requires.all_sized }

pub returns-in-Ok-Skip-default : goal.returns-in-Ok-Skip-default
returns-in-Ok-Skip-default c =
    let e = c.apply_skip.ensures.applied in
    let s = S (goal.at.returns-in-Ok-Skip-default c).Start in
    record {
      stepped = skip_step s c.args.bytes.now c.args.at _ _ _ (sym (ap (λ (x : RecordStart). Ok (x, c.in-Ok-Skip-default.next)) c.in-Ok-Skip-default.field-0-0-is) ∙ sym c.in-Ok-Skip-default.is ∙ c.parse_place.ensures) _ (skip-applied s _ _ (ap contents e));
      same_slices = stays c.args.pic.now e;
      sized = c.apply_skip.ensures.sized;
    }

pub returns-in-Err : goal.returns-in-Err
returns-in-Err c =
    record { stepped = no_place (S (goal.at.returns-in-Err c).Start) c.args.bytes.now c.args.at _ (sym c.in-Err.is ∙ c.parse_place.ensures) _ _; same_slices = refl; sized = c.requires.all_sized }

pub returns-in-Ok-Coded-default : goal.returns-in-Ok-Coded-default
returns-in-Ok-Coded-default c = c.replay_coded.ensures
