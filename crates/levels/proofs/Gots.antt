-- Laws of what readers answer: elements taken before, and the value under another name.
-- Assumes nothing.
use mathlib.Core.Path.{◌≡◌, refl, sym, ap}
use Prim.Native.Nat.{ℕ, ◌+◌}
use native.Mathlib.Nat.{zero-add, add_assoc}
use Rattle.refusal.specs.Got.{Got, got, refused, after, map_got}

module _ {X : Type 0} where
  pub after-zero : (g : Got X) → after 0 g ≡ g
  after-zero (got x n) = ap (got x) (zero-add n)
  after-zero (refused r) = refl

  pub after-after : (m n : ℕ) (g : Got X) → after m (after n g) ≡ after (m + n) g
  after-after m n (got x k) = ap (got x) (sym (add_assoc m n k))
  after-after m n (refused r) = refl

pub map-after : {X Y : Type 0} (f : X → Y) (n : ℕ) (g : Got X) → map_got f (after n g) ≡ after n (map_got f g)
map-after f n (got x k) = refl
map-after f n (refused r) = refl

pub map-map : {X Y Z : Type 0} (f : Y → Z) (g : X → Y) (h : X → Z) (a : Got X) → ((x : X) → f (g x) ≡ h x) → map_got f (map_got g a) ≡ map_got h a
map-map f g h (got x k) e = ap (λ z. got z k) (e x)
map-map f g h (refused r) e = refl
