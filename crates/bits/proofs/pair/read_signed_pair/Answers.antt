-- `bits::pair::read_signed_pair` answers both codes: by what the 25 bits at its place say where both are short, and else one after the other.
use mathlib.Core.Path.{◌∙◌}
use Prim.Native.Nat.{◌+◌, ◌-◌, ◌*◌, ◌%◌, ◌^◌}
use native.Mathlib.Omega.{arith}
use lib.ListN.{drop}
use mir.Syntax.{w32}
use mir.Facts.{to_z-of_z}
use Rattle.bits.specs.Bits.{bit_list}
use Rattle.std.specs.Prelude.{Ok}
use Rattle.bits.proofs.Pairs.{passed-half, signed-here, pair_found}
use Rattle.bits.proofs.pair.read_signed_pair.Goals as goal

pub returns : goal.returns
returns c =
    let a = c.args in
    let s = bit_list a.bits.bytes.now in
    let w = c.word_here-here in
    let f = c.code_start-first in
    let g = c.code_start-second in
    let l = f.ensures.below _ c.in-Some.is in
    let fb = rw c.in-Some.is at f.ensures.says in
    let k = g.ensures.below _ c.in-Some-before.is in
    let gb = rw c.in-Some-before.is at g.ensures.says in
    let first = signed-here w.result 25 c.in-Some.before f.result.head (drop a.at s) (omega arith) w.ensures fb l in
    let shown = passed-half w.result 25 (c.in-Some.before + 1) (drop a.at s) (omega arith) w.ensures in
    let second = signed-here (w.result * 2 ^ (c.in-Some.before + 1) % 2 ^ 32) (25 - (c.in-Some.before + 1)) c.in-Some-before.between g.result.head (drop (c.in-Some.before + 1) (drop a.at s)) (omega arith) shown gb k in
    let y = to_z-of_z {w = w32} (record { sfits = c.signed_of-y.type_inv }) ∙ c.signed_of-y.ensures in
    let x = to_z-of_z {w = w32} (record { sfits = c.signed_of-x.type_inv }) ∙ c.signed_of-x.ensures in
    (λ i. Ok ((y i, x i), a.at + (c.in-Some.before + 1 + (c.in-Some-before.between + 1)))) ∙ pair_found s a.at (c.in-Some.before + 1) (c.in-Some-before.between + 1) _ _ first second
