-- `replay::replay::replay` meets its contract: the questions, the check of all records, then the work.
use mathlib.Core.Path.{refl, sym, ap, ◌∙◌}
use borrow.Author.Rules.{rules}
use Rattle.std.specs.Prelude.{Ok}
use Rattle.picture.specs.InnerLent.{Slices}
use Rattle.picture.proofs.Lent.{slices-are, same-slices}
use Rattle.replay.specs.Replay.{replay_left}
use Rattle.refusal.proofs.Answered.{handed}
use Rattle.state.specs.Questions.{ask_replay}
use Rattle.state.specs.declared.Lengths.{Lengths}
use Rattle.state.specs.State.{State}
use Rattle.macroblock.specs.Entry.{state_of, state_now}
use Rattle.replay.proofs.Replays.{not-asked, right, in-grid, sized, not-checked, recorded, all-applied}
use Rattle.replay.proofs.replay.replay.Goals.{Start}
use Rattle.replay.proofs.replay.replay.Goals as goal

-- the state at entry
abbrev S : Start → State
S s = state_now s.args.frame s.args.quantiser s.args.ry s.args.rcb s.args.rcr s.args.y s.args.cb s.args.cr s.args.mv s.args.marks

pub check_records-requires : goal.check_records-requires
check_records-requires c = right (S (goal.at.check_records-requires c).Start) c.args.bytes.now (sym c.in_ok-ask_replay.was ∙ (c.ask_replay.ensures ∙ ap (λ (l : Lengths). ask_replay c.args.frame.grid.cols c.args.frame.grid.rows l c.args.quantiser) c.of-l.ensures))

pub replay_records-quantiser-requires : goal.replay_records-quantiser-requires
replay_records-quantiser-requires c =
    let e = sym c.in_ok-ask_replay.was ∙ (c.ask_replay.ensures ∙ ap (λ (l : Lengths). ask_replay c.args.frame.grid.cols c.args.frame.grid.rows l c.args.quantiser) c.of-l.ensures) in
    let g = in-grid (S (goal.at.replay_records-quantiser-requires c).Start) c.args.bytes.now e in
    record { cols_bound = (g.most-cols, g.most-rows, recorded (S (goal.at.replay_records-quantiser-requires c).Start) c.args.bytes.now e (sym c.in_ok-records.was ∙ c.check_records.ensures)); all_sized = sized (S (goal.at.replay_records-quantiser-requires c).Start) c.args.bytes.now e }

pub returns : goal.returns
returns c =
    let a = c.args in
    let d = c.replay_records-quantiser in
    let same = same-slices d.ensures.same_slices in
    ap (λ (p : Slices). replay_left (Ok (record { records = c.in_ok-records.records; quantiser = d.result })) (state_of a.frame d.result a.ry.now a.rcb.now a.rcr.now p.y p.cb p.cr p.mv p.marks))
    (slices-are (let e = same.y in search rules) (let e = same.cb in search rules) (let e = same.cr in search rules) (let e = same.mv in search rules) (let e = same.marks in search rules))
    ∙ all-applied (S (goal.at.returns c).Start) a.bytes.now (sym c.in_ok-ask_replay.was ∙ (c.ask_replay.ensures ∙ ap (λ (l : Lengths). ask_replay c.args.frame.grid.cols c.args.frame.grid.rows l c.args.quantiser) c.of-l.ensures)) (sym c.in_ok-records.was ∙ c.check_records.ensures)
    (λ q. state_of a.frame q a.ry.now a.rcb.now a.rcr.now d.new.pic.y.now d.new.pic.cb.now d.new.pic.cr.now d.new.pic.mv.now d.new.pic.marks.now) d.result refl d.ensures.left

pub returns-in_err-records : goal.returns-in_err-records
returns-in_err-records c =
    rw (handed _ _ c.from_residual-in_err-records.ensures) (not-checked (S (goal.at.returns-in_err-records c).Start) c.args.bytes.now (sym c.in_ok-ask_replay.was ∙ (c.ask_replay.ensures ∙ ap (λ (l : Lengths). ask_replay c.args.frame.grid.cols c.args.frame.grid.rows l c.args.quantiser) c.of-l.ensures)) (sym c.in_err-records.was ∙ c.check_records.ensures))

pub returns-in_err-ask_replay : goal.returns-in_err-ask_replay
returns-in_err-ask_replay c =
    rw (handed _ _ c.from_residual.ensures) (not-asked (S (goal.at.returns-in_err-ask_replay c).Start) c.args.bytes.now (sym c.in_err-ask_replay.was ∙ (c.ask_replay.ensures ∙ ap (λ (l : Lengths). ask_replay c.args.frame.grid.cols c.args.frame.grid.rows l c.args.quantiser) c.of-l.ensures)))

pub ask_replay-requires : goal.ask_replay-requires
ask_replay-requires c = tt
