-- `bits::pair::four_at`: its four bytes, one by one, are what the word shows.
use mathlib.Core.Path.{◌≡◌, refl, sym, subst, ◌∙◌}
use Prim.Native.Nat.{ℕ, ◌+◌, ◌*◌, ◌^◌, ◌<◌}
use native.Mathlib.Omega.{arith}
use lib.ListN.{get_or, drop}
use Rattle.bits.specs.Bits.{bit_list}
use Rattle.bits.specs.InnerWindow.{Shows}
use Rattle.bits.proofs.Pairs.{four-shows}
use Rattle.bits.proofs.pair.four_at.Goals as goal

pub returns : goal.returns
returns c =
    let s = c.args.bits.now in
    let i = c.args.i in
    let b = λ (k : ℕ). get_or s (i + k) 0 in
    let small : (k : ℕ) → b k < 256 = λ k. omega (arith, c.type_inv.bits (i + k)) in
    let same : get_or s i 0 * 2 ^ 24 + b 1 * 2 ^ 16 + b 2 * 2 ^ 8 + b 3 ≡ c.from_be_bytes.result = sym (c.from_be_bytes.ensures ∙ omega arith) in
    subst (λ (w : ℕ). Shows (w * 2 ^ 32) 32 (drop (8 * i) (bit_list s))) same
    (four-shows s i (get_or s i 0) (b 1) (b 2) (b 3) (small 1, small 2, small 3) refl refl refl refl c.requires)
