-- `transcript::parse::parse_motion`: each part's answer, taken on to the whole.
use mathlib.Core.Path.{sym, ◌∙◌}
use native.Mathlib.Omega.{arith}
use Rattle.record.proofs.Padded.{used-most}
use Rattle.refusal.proofs.Answered.{handed}
use Rattle.transcript.proofs.Reading.{front-filled}
use Rattle.transcript.proofs.Parsings.{no-precision, no-clipped, no-vectors, with-vectors}
use Rattle.transcript.proofs.parse.parse_motion.Goals as goal

pub overflow_mul-used : goal.overflow_mul-used
overflow_mul-used c = omega (arith, c.num_motion_vectors-used.ensures, used-most c.args.head.mode c.requires.2)

pub overflow_cast-used : goal.overflow_cast-used
overflow_cast-used c = omega (arith, c.num_motion_vectors-used.ensures, used-most c.args.head.mode c.requires.2)

pub slice_bounds-read_signed_numbers-end : goal.slice_bounds-read_signed_numbers-end
slice_bounds-read_signed_numbers-end c = omega (arith, c.num_motion_vectors-used.ensures, used-most c.args.head.mode c.requires.2)

pub returns : goal.returns
returns c =
    with-vectors c.args.head c.args.bytes.now c.args.at _ _ _ _ (sym c.in_ok-precision.was ∙ c.read_field.ensures) _ c.num_motion_vectors-used.ensures _ _ (sym c.in_ok-clipped.was ∙ c.read_field-2.ensures) _ c.requires.0 _ (front-filled _ _ _ c.args.vectors.now _ _ (omega (arith, c.told-vectors, c.num_motion_vectors-used.ensures, used-most c.args.head.mode c.requires.2)) c.read_signed_numbers.ensures) _ _ _ c.with_motion.ensures c.in_ok-next.was c.parse_residual.ensures

pub returns-in_err-next : goal.returns-in_err-next
returns-in_err-next c =
    rw (handed _ _ c.from_residual-in_err-next.ensures) (no-vectors c.args.head c.args.bytes.now c.args.at _ _ _ _ (sym c.in_ok-precision.was ∙ c.read_field.ensures) _ c.num_motion_vectors-used.ensures _ _ (sym c.in_ok-clipped.was ∙ c.read_field-2.ensures) _ c.requires.0 _ (front-filled _ _ _ c.args.vectors.now _ _ (omega (arith, c.told-vectors, c.num_motion_vectors-used.ensures, used-most c.args.head.mode c.requires.2)) c.read_signed_numbers.ensures) _ c.in_err-next.was)

pub returns-in_err-clipped : goal.returns-in_err-clipped
returns-in_err-clipped c =
    rw (handed _ _ c.from_residual-in_err-clipped.ensures) (no-clipped c.args.head c.args.bytes.now c.args.at _ _ _ _ (sym c.in_ok-precision.was ∙ c.read_field.ensures) _ c.num_motion_vectors-used.ensures _ (sym c.in_err-clipped.was ∙ c.read_field-2.ensures))

pub returns-in_err-precision : goal.returns-in_err-precision
returns-in_err-precision c = rw (handed _ _ c.from_residual.ensures) (no-precision c.args.head c.args.bytes.now c.args.at _ _ _ (sym c.in_err-precision.was ∙ c.read_field.ensures))
