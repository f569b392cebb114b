-- `transcript::parse::all_short`: one byte a turn.
use mathlib.Core.Path.{◌≡◌, refl}
use Prim.Native.Nat.{◌+◌, ◌-◌, ◌<◌}
use native.Mathlib.Numerals.{add-one}
use native.Mathlib.Omega.{arith}
use lib.ListN.{drop}
use lib.Seq.{get_or-take, get_or-drop}
use Rattle.refusal.proofs.Parts.{part-length}
use Rattle.transcript.specs.InnerReceived.{short_received}
use Rattle.transcript.proofs.parse.all_short.Goals as goal

pub loop-byte-init : goal.loop-byte-init
unfolding short_received
loop-byte-init c = refl

pub loop-byte-preserved : goal.loop-byte-preserved
unfolding short_received
loop-byte-preserved c =
    let a = c.args in
    let i = c.loop-byte.byte-index in
    let z : a.at + 16 - a.at ≡ 16 = omega arith in
    let h : i < 16 = omega (arith, c.loop-byte-test.true, part-length a.at (a.at + 16 - a.at) a.bytes.now (omega (arith, c.requires))) in
    rw (add-one i, c.loop-byte.invariant, z, get_or-take 16 (drop a.at a.bytes.now) i 0 h, get_or-drop a.at a.bytes.now i 0)
