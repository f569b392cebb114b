-- `levels::svq3_coeff::next_level`: a short code is found in the window, any other is read.
use mathlib.Core.Path.{◌≡◌, refl, ap, sym, ◌∙◌}
use Prim.Native.Nat.{◌+◌, ◌*◌, ◌≤◌}
use native.Mathlib.Omega.{arith}
use lib.ListN.{length, drop}
use mir.Facts.{to_z-of_z}
use mir.Syntax.{w32}
use Rattle.refusal.specs.Got.{got}
use Rattle.bits.specs.Bits.{bit_list}
use Rattle.levels.specs.InnerShort.{entry_size}
use Rattle.levels.specs.Levels.{level_run}
use Rattle.refusal.specs.Answered.{answered}
use Rattle.std.specs.Prelude.{None}
use Rattle.levels.proofs.Shorts.{one_found, size_few, size-some, level-found, entry-stepped, end-stepped, inside}
use Rattle.levels.proofs.svq3_coeff.next_level.Goals.{Then-known-gt0, Then-size-known}
use Rattle.levels.proofs.svq3_coeff.next_level.Goals as goal

-- the code's bits are there
there : (c : Then-size-known) → c.args.at + entry_size c.entry_of-entry.result ≤ 8 * length c.args.bits.bytes.now
there c =
    let a = c.args in
    let b = bit_list a.bits.bytes.now in
    let w = a.window in
    let e = c.entry_of-entry in
    let low = c.if-word-lt9223372036854775808.true in
    inside a.book a.bits.bytes.now a.at _ _ (level-found a.book b a.at w.word w.known c.requires e.result low e.ensures c.if-size-known.true) (size-some a.book b a.at w.word w.known c.requires e.result low e.ensures c.if-size-known.true)

-- the code 0
ended : (c : Then-known-gt0) → level_run c.args.book (drop c.args.at (bit_list c.args.bits.bytes.now)) ≡ got None 1
ended c =
    let a = c.args in
    one_found a.book (bit_list a.bits.bytes.now) a.at a.window.word a.window.known c.requires c.if-known-gt0.true c.if-word-lt9223372036854775808.false (omega arith)

pub pass-requires : goal.pass-requires
pass-requires c =
    let a = c.args in
    let e = c.entry_of-entry in
    let t = c.if-size-known.true in
    (t, omega (arith, size_few a.book (bit_list a.bits.bytes.now) a.at a.window.word a.window.known c.requires e.result c.if-word-lt9223372036854775808.true e.ensures t))

pub returns-then-size-known : goal.returns-then-size-known
returns-then-size-known c =
    let a = c.args in
    let b = bit_list a.bits.bytes.now in
    let e = c.entry_of-entry in
    let l = c.entry_level in
    entry-stepped a.book b a.at a.window.word a.window.known c.requires e.result c.if-word-lt9223372036854775808.true e.ensures c.if-size-known.true _ _ refl refl (to_z-of_z {w = w32} (record { sfits = l.type_inv }) ∙ l.ensures) (c.pass.ensures (drop a.at b) c.requires)

pub returns-then-known-gt0 : goal.returns-then-known-gt0
returns-then-known-gt0 c =
    let a = c.args in
    end-stepped a.book (bit_list a.bits.bytes.now) a.at _ refl (ap (answered a.at) (sym (ended c)))

pub overflow_add-result : goal.overflow_add-result
overflow_add-result c = omega (arith, there (goal.at.overflow_add-result c).Then-size-known)

pub overflow_add-result-then-known-gt0 : goal.overflow_add-result-then-known-gt0
overflow_add-result-then-known-gt0 c = omega (arith, inside c.args.book c.args.bits.bytes.now c.args.at _ _ (ended c) (omega arith))
