-- `reading::svq3_frame::read_quantiser` answers `read_quantiser`: the sum is exact in 64 bits.
use mathlib.Core.Path.{◌≡◌, sym, ◌∙◌}
use Prim.Native.Nat.{◌^◌, ◌<◌}
use native.Mathlib.Omega.{arith}
use borrow.Author.Rules.{rules}
use lib.IntN.{pos, ◌+ℤ◌}
use lib.Signed.{mag}
use mir.Syntax.{w32, w64}
use mir.Val.{to_z}
use Rattle.refusal.proofs.Answered.{handed}
use Rattle.ints.proofs.Fits.{read, signed}
use Rattle.ints.proofs.Same.{reads}
use Rattle.reading.proofs.Quantiser.{in-range-cast, no-delta, delta-refused, delta-in, delta-out}
use Rattle.reading.proofs.svq3_frame.read_quantiser.Goals.{In_ok-d}
use Rattle.reading.proofs.svq3_frame.read_quantiser.Goals as goal

exact : (c : In_ok-d) → let q = c.args.quantiser in let d = c.in_ok-d.d in read w64 (to_z w64 q +ℤ read w64 (read w32 d)) ≡ pos q +ℤ d
exact c =
    let h : c.args.quantiser < 32 = omega (arith, c.requires) in
    let f : mag c.in_ok-d.d < 2 ^ 31 = search rules in
    search reads depth 20

pub overflow_cast-q-then-pattern-delta : goal.overflow_cast-q-then-pattern-delta
overflow_cast-q-then-pattern-delta c = let f : mag c.in_ok-d.d < 2 ^ 31 = search rules in search signed depth 20

pub overflow_add-q : goal.overflow_add-q
overflow_add-q c =
    let h : c.args.quantiser < 32 = omega (arith, c.requires) in
    let f : mag c.in_ok-d.d < 2 ^ 31 = search rules in
    search signed depth 20

pub returns-then-q : goal.returns-then-q
returns-then-q c = let a = c.args in delta-in a.delta a.quantiser a.pattern a.at _ c.if-pattern-delta.true _ _ _ (sym c.in_ok-d.was ∙ c.read_signed_code.ensures) (exact (goal.at.returns-then-q c).In_ok-d) c.if-q.true

pub returns-else-q : goal.returns-else-q
returns-else-q c = let a = c.args in delta-out a.delta a.quantiser a.pattern a.at _ c.if-pattern-delta.true _ _ _ (sym c.in_ok-d.was ∙ c.read_signed_code.ensures) (exact (goal.at.returns-else-q c).In_ok-d) c.if-q.false

pub returns-in_err-d : goal.returns-in_err-d
returns-in_err-d c = let a = c.args in handed _ _ c.from_residual.ensures ∙ delta-refused a.delta a.quantiser a.pattern a.at _ c.if-pattern-delta.true _ (sym c.in_err-d.was ∙ c.read_signed_code.ensures)

pub overflow_cast-result : goal.overflow_cast-result
overflow_cast-result c = in-range-cast (read w64 (to_z w64 c.args.quantiser +ℤ read w64 (read w32 c.in_ok-d.d))) c.if-q.true

pub returns-else-pattern-delta : goal.returns-else-pattern-delta
returns-else-pattern-delta c = let a = c.args in no-delta a.delta a.quantiser a.pattern a.at _ c.if-pattern-delta.false
