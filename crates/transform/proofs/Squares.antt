-- Four blocks in a square of 8 × 8.
-- Assumes nothing.
use mathlib.Core.Path.{◌≡◌, refl, ap, ◌∙◌}
use mathlib.Core.List.{List}
use Prim.Native.Nat.{ℕ, ◌+◌, ◌*◌, ◌/◌, ◌%◌, ◌≤◌, ◌<◌}
use native.Mathlib.Nat.{mul-le-mul_right}
use native.Mathlib.Numerals.{add-one}
use native.Mathlib.Omega.{arith}
use lib.IntN.{ℤ}
use Rattle.std.proofs.Common.{add-zero}
use Rattle.picture.specs.Painted.{Inside}
use Rattle.transform.specs.Added.{added}
use Rattle.transform.specs.InnerFour.{added_four, added_blocks}

pub inside-block : {s x y size size' : ℕ} (b : ℕ) → b < 4 → Inside s x y 8 8 size → size' ≡ size → Inside s (x + 4 * (b % 2)) (y + 4 * (b / 2)) 4 4 size'
inside-block {s} {x} {y} b l i e =
    let d : (y + 4 * (b / 2) + 4) * s ≤ (y + 8) * s = mul-le-mul_right s (omega arith) in
    record { some = i.some; across = omega (arith, i.across); down = omega (arith, i.down) }

module _ (f : ℕ → ℕ → ℕ → ℤ) (s x y : ℕ) (p₀ : List ℕ) where
  -- the loop over the blocks: before it, a turn, and at its end
  pub none-added : p₀ ≡ added_blocks p₀ s x y f 0
  unfolding added_blocks
  none-added = refl

  pub one-added : (b : ℕ) {p p' : List ℕ} → p ≡ added_blocks p₀ s x y f b → p' ≡ added p s (x + 4 * (b % 2)) (y + 4 * (b / 2)) (f b) → p' ≡ added_blocks p₀ s x y f (b + 1)
  unfolding added_blocks
  one-added b e g = rw (add-one b) (g ∙ ap (λ p. added p s (x + 4 * (b % 2)) (y + 4 * (b / 2)) (f b)) e)

  pub all-added : added_blocks p₀ s x y f 4 ≡ added_four p₀ s x y f
  unfolding added_blocks added_four
  all-added = simp add-zero

  pub four-added : {p₁ p₂ p₃ p₄ : List ℕ} → p₁ ≡ added p₀ s x y (f 0) → p₂ ≡ added p₁ s (x + 4) y (f 1) → p₃ ≡ added p₂ s x (y + 4) (f 2) → p₄ ≡ added p₃ s (x + 4) (y + 4) (f 3)
      → p₄ ≡ added_four p₀ s x y f
  unfolding added_four
  four-added a b c d =
      d
      ∙ ap (λ p. added p s (x + 4) (y + 4) (f 3)) (c ∙ ap (λ p. added p s x (y + 4) (f 2)) (b ∙ ap (λ p. added p s (x + 4) y (f 1)) a))
