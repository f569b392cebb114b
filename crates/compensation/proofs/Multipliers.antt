-- The thirds by multiplier and shift, as another description of SVQ3 has them, are the thirds by division, for all samples.
-- Assumes nothing.
use mathlib.Core.Path.{◌≡◌}
use Prim.Native.Nat.{ℕ, ◌+◌, ◌*◌, ◌/◌, ◌≤◌}
use native.Mathlib.Omega.{arith}
use Rattle.compensation.specs.Formula.{third, corner}

-- 683 is 0x2AB and 2,048 is 2^11
pub third-by-multiplier : (a b : ℕ) → a ≤ 255 → b ≤ 255 → third a b ≡ (2 * a + b + 1) * 683 / 2048
third-by-multiplier a b p q = omega arith

-- 2,731 is 0xAAB and 32,768 is 2^15
pub corner-by-multiplier : (a b c d : ℕ) → a ≤ 255 → b ≤ 255 → c ≤ 255 → d ≤ 255 → corner a b c d ≡ (4 * a + 3 * b + 3 * c + 2 * d + 6) * 2731 / 32768
corner-by-multiplier a b c d p q r s = omega arith
