-- `decode_inter_mb`: a call that is refused by a question changes nothing; the others are decoded.
use mathlib.Core.Path.{sym, ap, ◌∙◌}
use borrow.Author.Rules.{rules}
use Rattle.picture.specs.InnerLent.{Slices}
use lib.ListN.{length}
use Rattle.state.specs.Questions.{ask_call}
use Rattle.state.specs.declared.Lengths.{Lengths}
use Rattle.state.specs.State.{State}
use Rattle.macroblock.specs.Entry.{state_of, mb_left, quantiser_by}
use Rattle.refusal.proofs.Answered.{handed}
use Rattle.picture.proofs.Lent.{slices-are, same-slices}
use Rattle.macroblock.proofs.Laws as laws
use Rattle.macroblock.proofs.svq3_frame.decode_inter_mb.Goals.{Start}
use Rattle.macroblock.proofs.svq3_frame.decode_inter_mb.Goals as goal

abbrev S : Start → State
S c = state_of c.args.frame c.args.quantiser c.args.ry.now c.args.rcb.now c.args.rcr.now c.args.y.now c.args.cb.now c.args.cr.now c.args.mv.now c.args.marks.now

pub decode_asked-requires : goal.decode_asked-requires
decode_asked-requires c =
    sym (laws.asked_by (S (goal.at.decode_asked-requires c).Start) c.args.call c.args.bits.now c.args.place c.args.transcript.now c.args.fill _ _ (c.ask_call.ensures ∙ ap (λ (l : Lengths). ask_call c.args.frame.grid.cols c.args.frame.grid.rows l c.args.call c.args.quantiser (length c.args.bits.now) c.args.place c.saturating_sub-free.result) c.of-l.ensures) c.saturating_sub-free.ensures) ∙ c.in_ok-ask_call.was

pub returns : goal.returns
returns c =
    let a = c.args in
    let d = c.decode_asked in
    let same = same-slices d.ensures.same_slices in
    ap (λ (p : Slices). mb_left d.result (state_of a.frame (quantiser_by a.quantiser d.result) a.ry.now a.rcb.now a.rcr.now p.y p.cb p.cr p.mv p.marks) d.new.transcript)
    (slices-are (let e = same.y in search rules) (let e = same.cb in search rules) (let e = same.cr in search rules) (let e = same.mv in search rules) (let e = same.marks in search rules))
    ∙ d.ensures.left

pub returns-in_err-ask_call : goal.returns-in_err-ask_call
returns-in_err-ask_call c =
    rw (handed _ _ c.from_residual.ensures) (laws.not-asked (S (goal.at.returns-in_err-ask_call c).Start) c.args.call c.args.bits.now c.args.place c.args.transcript.now c.args.fill _ _ (laws.asked_by (S (goal.at.returns-in_err-ask_call c).Start) c.args.call c.args.bits.now c.args.place c.args.transcript.now c.args.fill _ _ (c.ask_call.ensures ∙ ap (λ (l : Lengths). ask_call c.args.frame.grid.cols c.args.frame.grid.rows l c.args.call c.args.quantiser (length c.args.bits.now) c.args.place c.saturating_sub-free.result) c.of-l.ensures) c.saturating_sub-free.ensures) c.in_err-ask_call.was)
