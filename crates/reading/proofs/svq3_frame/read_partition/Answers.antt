-- `reading::svq3_frame::read_partition` reads the vertical difference, then the horizontal one.
use mathlib.Core.Path.{sym, ◌∙◌}
use mathlib.Core.Logic.{⊎_elim}
use borrow.Author.Rules.{rules}
use Rattle.refusal.proofs.Answered.{handed}
use Rattle.bits.specs.Bits.{bit_list}
use Rattle.bits.proofs.Pairs.{pair_read_lem, pair-refused}
use Rattle.vectors.proofs.Moves.{field-read}
use Rattle.reading.proofs.Steps.{step-no-vertical, step-no-horizontal, step-moved}
use Rattle.reading.proofs.svq3_frame.read_partition.Goals as goal

pub returns : goal.returns
returns c m t =
    let a = c.args in
    let both = pair_read_lem (bit_list a.bits.bytes.now) a.at c.in_ok-dy.dy c.in_ok-dy.dx c.in_ok-dy.next (sym c.in_ok-dy.was ∙ c.read_signed_pair.ensures) in
    step-moved a.motion a.i m (bit_list a.bits.bytes.now) a.at _ _ both.first _ _ both.second _ _ (field-read c.in_ok-dy.dy (search rules)) (field-read c.in_ok-dy.dx (search rules)) _ (c.move_partition-so_far.ensures m t)

pub returns-in_err-dy : goal.returns-in_err-dy
returns-in_err-dy c m t =
    let a = c.args in
    let s = bit_list a.bits.bytes.now in
    rw (handed _ _ c.from_residual.ensures) (⊎_elim
    (λ e. step-no-vertical a.motion a.i m s a.at _ e)
    (λ e. step-no-horizontal a.motion a.i m s a.at _ _ e.first _ e.second)
    (pair-refused s a.at _ (sym c.in_err-dy.was ∙ c.read_signed_pair.ensures)))
