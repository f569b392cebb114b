-- `levels::svq3_coeff::read_level` answers `level_run` at its place: the code there, taken through the book.
use mathlib.Core.Path.{sym, ap, ◌∙◌}
use lib.ListN.{drop}
use Rattle.std.specs.Prelude.{Ok}
use Rattle.refusal.proofs.Answered.{answered-map, refused-map, handed}
use Rattle.bits.specs.Bits.{bit_list}
use Rattle.bits.specs.Code.{code}
use Rattle.levels.specs.Book.{LevelRun, resolve}
use Rattle.levels.specs.Levels.{level_run}
use Rattle.levels.proofs.svq3_coeff.read_level.Goals as goal

pub returns-in_err-code : goal.returns-in_err-code
unfolding level_run
returns-in_err-code c =
    let a = c.args in
    handed _ _ c.from_residual.ensures ∙ refused-map (resolve a.book) a.at (code (drop a.at (bit_list a.bits.bytes.now))) _ (sym c.in_err-code.was ∙ c.read_universal_code.ensures)

pub returns : goal.returns
unfolding level_run
returns c =
    let a = c.args in
    ap (λ (x : LevelRun). Ok (x, c.in_ok-code.next)) c.resolve_level_run.ensures
    ∙ answered-map (resolve a.book) a.at (code (drop a.at (bit_list a.bits.bytes.now))) _ _ (sym c.in_ok-code.was ∙ c.read_universal_code.ensures)
