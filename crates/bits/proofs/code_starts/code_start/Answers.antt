-- `bits::code_starts::code_start`: what it computes passes the test at every nine bits.
use Prim.Native.Nat.{ℕ, ◌+◌, ◌*◌, ◌/◌, ◌%◌, ◌^◌, ◌<◌}
use native.Mathlib.Omega.{arith}
use lib.Bits.{bit_and, bit_or}
use lib.Count.{count_leading_zeros}
use mathlib.Core.Path.{◌≡◌}
use Rattle.std.proofs.lemmas.Option.{same_Some, none-some}
use Rattle.bits.proofs.code_starts.code_start.Goals.{then-found-lt10, else-found-lt10}
use Rattle.bits.specs.InnerStarts.{Begins}
use Rattle.bits.proofs.CodeStarts.{computed}
use Rattle.bits.proofs.code_starts.code_start.Goals as goal

-- the code's terms
abbrev before : ℕ → ℕ
before w = count_leading_zeros 32 (bit_and w 0x155 * 2 ^ 23 % 2 ^ 32 + 0x200000)

abbrev pairs : ℕ → ℕ
pairs w = bit_and (bit_or (bit_and w 0xaa / 2 ^ 1) (bit_and w 0xaa / 2 ^ 1 / 2 ^ 1)) 0x33

abbrev head : ℕ → ℕ
head w = (16 + bit_and (bit_or (pairs w) (pairs w / 2 ^ 2)) 0xf) * 2 ^ (before w / 2) % 2 ^ 32 / 2 ^ 4

says : (w : ℕ) → w < 512 → Begins w (before w) (head w)
unfolding count_leading_zeros
says w h = computed before head tt w h

pub returns : goal.returns
returns c =
    let b = says c.args.nine c.requires in
    elim c.if-found-lt10.branch [
      | then-found-lt10 w ↦ rw w.result-is (record { says = b; below = λ n e. omega (arith, w.if-found-lt10.true, same_Some _ n e) })
      | else-found-lt10 w ↦ let t : before c.args.nine ≡ 10 = omega (arith, b.within, w.if-found-lt10.false) in rw (w.result-is, ← t) (record { says = b; below = λ n e. absurd (none-some n e) })
    ]
