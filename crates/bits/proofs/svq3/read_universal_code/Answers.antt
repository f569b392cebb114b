-- `bits::svq3::read_universal_code` answers `code` at its place: by what the nine bits there say, where two bytes are left.
use mathlib.Core.Path.{◌≡◌, refl, ◌∙◌}
use Prim.Native.Nat.{ℕ}
use Rattle.std.specs.Prelude.{Option, None, unwrap_or}
use Rattle.bits.specs.Bits.{bit_list}
use Rattle.bits.specs.Code.{code}
use Rattle.bits.proofs.CodeStarts.{at_once, later}
use Rattle.bits.proofs.svq3.read_universal_code.Goals as goal

ten : (b : Option ℕ) → b ≡ None → unwrap_or b 10 ≡ 10
ten b e = rw e refl

pub returns-then-bits-at : goal.returns-then-bits-at
unfolding code
returns-then-bits-at c = c.read_on.ensures

pub returns-in_default : goal.returns-in_default
returns-in_default c =
    let a = c.args in
    let w = c.nine_at in
    let s = c.code_start-start in
    c.read_on-in_default.ensures ∙ later (bit_list a.bits.bytes.now) a.at w.result _ s.result.head w.ensures.1 s.ensures.says (ten s.result.before c.in_default.is)

pub returns : goal.returns
returns c =
    let a = c.args in
    let w = c.nine_at in
    let s = c.code_start-start in
    at_once (bit_list a.bits.bytes.now) a.at w.result _ s.result.head w.ensures.1 (rw c.in-Some.is at s.ensures.says) w.ensures.2 (s.ensures.below _ c.in-Some.is)
