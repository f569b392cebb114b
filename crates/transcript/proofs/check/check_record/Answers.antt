-- `transcript::check::check_record`: a skip ends behind its mode, another record where `check_coded` says.
use mathlib.Core.Path.{sym, ap, ◌∙◌}
use Rattle.std.specs.Prelude.{Ok}
use Rattle.refusal.specs.Answered.{reached}
use Rattle.refusal.proofs.Answered.{handed}
use Rattle.transcript.specs.declared.parse.RecordStart.{RecordStart}
use Rattle.transcript.proofs.Places.{not-read, skip_read, coded-read}
use Rattle.transcript.proofs.Checks.{rest-answer}
use Rattle.transcript.proofs.check.check_record.Goals as goal

pub check_coded-requires : goal.check_coded-requires
check_coded-requires c =
    let a = c.args in
    (coded-read a.grid.cols a.grid.rows a.bytes.now a.at _ _ (sym (ap (λ (x : RecordStart). Ok (x, c.in_ok-start.next)) c.in-Coded.is) ∙ sym c.in_ok-start.was ∙ c.parse_place.ensures)).range.mode

pub returns-in_err-start : goal.returns-in_err-start
returns-in_err-start c =
    let a = c.args in
    handed _ _ c.from_residual.ensures ∙ ap (reached a.at) (sym (not-read a.grid.cols a.grid.rows a.bytes.now a.at _ (sym c.in_err-start.was ∙ c.parse_place.ensures)))

pub returns-in-Skip : goal.returns-in-Skip
returns-in-Skip c =
    let a = c.args in
    let r = skip_read a.grid.cols a.grid.rows a.bytes.now a.at _ _ _ (sym (ap (λ (x : RecordStart). Ok (x, c.in_ok-start.next)) c.in-Skip.is) ∙ sym c.in_ok-start.was ∙ c.parse_place.ensures) in
    ap Ok r.moved ∙ ap (reached a.at) (sym r.is)

pub returns-in-Coded : goal.returns-in-Coded
returns-in-Coded c =
    let a = c.args in
    let r = coded-read a.grid.cols a.grid.rows a.bytes.now a.at _ _ (sym (ap (λ (x : RecordStart). Ok (x, c.in_ok-start.next)) c.in-Coded.is) ∙ sym c.in_ok-start.was ∙ c.parse_place.ensures) in
    c.check_coded.ensures ∙ rest-answer r
