-- Each pair of phases has its mix: what its code says is the formula.
-- Assumes nothing.
use mathlib.Core.Path.{◌≡◌, refl, ap, ◌∙◌}
use mathlib.Core.Bool.{Bool, true, false}
use mathlib.Core.List.{List}
use Prim.Native.Nat.{ℕ, zero, suc, ◌+◌, ◌*◌, ◌/◌, ◌%◌, ◌≤◌, ◌<◌}
use native.Mathlib.Nat.{add_assoc}
use native.Mathlib.Omega.{arith}
use lib.Dec.{eqb}
use Rattle.ints.specs.Z.{when◌then◌else◌}
use Rattle.picture.specs.Painted.{painted}
use Rattle.picture.proofs.Laws.{painted-values}
use Rattle.compensation.specs.Formula.{mean, third, along, third2d, formula}
use Rattle.compensation.specs.InnerKernel.{weighed, raised, mixed_taps, paired_at, paired_row, paired_block, mixed_at, mixed_row, mixed_block, MixFor, way, mixes, mix_code, MixSaid, four_at, four_row, four_block}
use Rattle.compensation.specs.declared.mix.Mix.{Mix}
use Rattle.compensation.specs.declared.mix.Weights.{Weights}

-- ---- taps that stand for their means
twice : (a b : ℕ) → raised 1 a b + raised 1 b a ≡ 2 * mean a b
unfolding raised
twice a b = omega arith

four-two : (a b c d : ℕ) → weighed 4 4 2 2 (raised 1 a b) (raised 1 b a) (raised 1 c d) (raised 1 d c) ≡ third (mean a b) (mean c d)
unfolding weighed
four-two a b c d = omega (arith, twice a b, twice c d)

two-four : (a b c d : ℕ) → weighed 2 2 4 4 (raised 1 a b) (raised 1 b a) (raised 1 c d) (raised 1 d c) ≡ third (mean c d) (mean a b)
unfolding weighed
two-four a b c d = omega (arith, twice a b, twice c d)

-- ---- four taps, mixed as a code says
abbrev mixed-as : ℕ → ℕ → ℕ → ℕ → ℕ → ℕ
mixed-as code a b c d =
    let up = raised (code / 32768) in
    weighed (code % 16) (code / 16 % 16) (code / 256 % 16) (code / 4096 % 8) (up a b) (up b a) (up c d) (up d c)

module _ (stride : ℕ) {px py code : ℕ} where
  -- two taps of a row
  by_rows : ((a b c d : ℕ) → mixed-as code a b c d ≡ formula px py a b c d) → (m : Mix) → MixSaid stride false code m → MixFor px py stride m
  unfolding mixed_at paired_at mixed_taps four_at when◌then◌else◌
  by_rows f m s =
      record { rows = s.rows; is = λ src i. rw (s.beside, s.second, s.means, s.wa, s.wb, s.wc, s.wd, ← add_assoc i 1 stride) (f _ _ _ _) }

  -- a tap and the one below it
  by-columns : ((a b c d : ℕ) → mixed-as code a c b d ≡ formula px py a b c d) → (m : Mix) → MixSaid stride true code m → MixFor px py stride m
  unfolding mixed_at paired_at mixed_taps four_at when◌then◌else◌
  by-columns f m s =
      record { rows = s.rows; is = λ src i. let corner : i + (stride + 1) ≡ i + 1 + stride = omega arith in rw (s.beside, s.second, s.means, s.wa, s.wb, s.wc, s.wd, corner) (f _ _ _ _) }

-- ---- the phases 1 and 2 go as far as each other, and so do 4 and 5
same-for : (stride : ℕ) {px py px' py' : ℕ} {m : Mix} → ((a b c d : ℕ) → formula px py a b c d ≡ formula px' py' a b c d) → MixFor px py stride m → MixFor px' py' stride m
unfolding four_at
same-for stride f n = record { rows = n.rows; is = λ src i. n.is src i ∙ f _ _ _ _ }

phases : (P : ℕ → Type 0) → (P 1 → P 2) → (P 4 → P 5) → P 0 → P 1 → P 3 → P 4 → (f : ℕ) → f < 6 → P f
phases P low high a b c d zero h = a
phases P low high a b c d (suc zero) h = b
phases P low high a b c d (suc (suc zero)) h = low b
phases P low high a b c d (suc (suc (suc zero))) h = c
phases P low high a b c d (suc (suc (suc (suc zero)))) h = d
phases P low high a b c d (suc (suc (suc (suc (suc zero))))) h = high d
phases P low high a b c d (suc (suc (suc (suc (suc (suc f)))))) h = absurd (omega arith)

abbrev EachFor : ℕ → ℕ → ℕ → Type 0
EachFor stride px py = (m : Mix) → MixSaid stride (eqb py 3) (mix_code px py) m → MixFor px py stride m

by_row : (stride px : ℕ) → EachFor stride px 0 → EachFor stride px 1 → EachFor stride px 3 → EachFor stride px 4 → (py : ℕ) → py < 6 → EachFor stride px py
unfolding formula along third2d mix_code way when◌then◌else◌
by_row stride px = phases (EachFor stride px) (λ k m s. same-for stride (λ a b c d. refl) (k m s)) (λ k m s. same-for stride (λ a b c d. refl) (k m s))

-- each mix that the code of two phases says is theirs
each-for : (stride px : ℕ) → px < 6 → (py : ℕ) → py < 6 → EachFor stride px py
unfolding formula along third2d weighed raised mix_code mixes way when◌then◌else◌
each-for stride =
    phases (λ px. (py : ℕ) → py < 6 → EachFor stride px py)
    (λ k py h m s. same-for stride (λ a b c d. refl) (k py h m s))
    (λ k py h m s. same-for stride (λ a b c d. refl) (k py h m s))
    (by_row stride 0 (by_rows stride (λ a b c d. omega arith)) (by_rows stride (λ a b c d. omega arith)) (by-columns stride (λ a b c d. omega arith)) (by_rows stride (λ a b c d. omega arith)))
    (by_row stride 1 (by_rows stride (λ a b c d. omega arith)) (by_rows stride (λ a b c d. omega arith)) (by-columns stride (λ a b c d. four-two a c b d)) (by_rows stride (λ a b c d. omega arith)))
    (by_row stride 3 (by_rows stride (λ a b c d. omega arith)) (by_rows stride four-two) (by-columns stride (λ a b c d. omega arith)) (by_rows stride two-four))
    (by_row stride 4 (by_rows stride (λ a b c d. omega arith)) (by_rows stride (λ a b c d. omega arith)) (by-columns stride (λ a b c d. two-four a c b d)) (by_rows stride (λ a b c d. omega arith)))

-- its weights are twelfths
abbrev Twelfths : ℕ → ℕ → Type 0
Twelfths px py = let code = mix_code px py in code % 16 + code / 16 % 16 + code / 256 % 16 + code / 4096 % 8 ≡ 12

pub twelfths-for : (px : ℕ) → px < 6 → (py : ℕ) → py < 6 → Twelfths px py
unfolding mix_code mixes way
twelfths-for =
    let along : (px : ℕ) → Twelfths px 0 → Twelfths px 1 → Twelfths px 3 → Twelfths px 4 → (py : ℕ) → py < 6 → Twelfths px py = λ px. phases (Twelfths px) (λ e. e) (λ e. e) in
    phases (λ px. (py : ℕ) → py < 6 → Twelfths px py) (λ k. k) (λ k. k) (along 0 refl refl refl refl) (along 1 refl refl refl refl) (along 3 refl refl refl refl) (along 4 refl refl refl refl)

-- ---- the mix that the code of two phases says, and its weights
code-flag : (px py : ℕ) → mix_code px py / 32768 ≤ 1
unfolding mix_code
code-flag px py = omega arith

corners : (halfway : Bool) (stride : ℕ) → (when halfway then stride else 1) + (when halfway then 1 else stride) ≡ stride + 1
unfolding when◌then◌else◌
corners true stride = refl
corners false stride = omega arith

abbrev weights_said : (px : ℕ) → px < 6 → (py : ℕ) → py < 6 → Weights
weights_said px h py l =
    record {
      means = mix_code px py / 32768;
      wa = mix_code px py % 16;
      wb = mix_code px py / 16 % 16;
      wc = mix_code px py / 256 % 16;
      wd = mix_code px py / 4096 % 8;
      flag = code-flag px py;
      twelfths = twelfths-for px h py l;
    }

abbrev mix_said : (stride px : ℕ) → px < 6 → (py : ℕ) → py < 6 → Mix
mix_said stride px h py l =
    record {
      stride = stride;
      beside = when eqb py 3 then stride else 1;
      second = when eqb py 3 then 1 else stride;
      weights = weights_said px h py l;
      square = corners (eqb py 3) stride;
    }

-- there is such a mix, which is the mix of the phases, and so is each that the code says
pub record SaidFor (stride px py : ℕ) : Type 0 where
  pub mix : Mix
  pub said : MixSaid stride (eqb py 3) (mix_code px py) mix
  pub is : MixFor px py stride mix
  pub each : (m : Mix) → MixSaid stride (eqb py 3) (mix_code px py) m → MixFor px py stride m

-- the code of two phases says their mix
pub said-for : (stride px : ℕ) → px < 6 → (py : ℕ) → py < 6 → SaidFor stride px py
said-for stride px h py l =
    let mix = mix_said stride px h py l in
    let each = each-for stride px h py l in
    let said : MixSaid stride (eqb py 3) (mix_code px py) mix = record { rows = refl; beside = refl; second = refl; means = refl; wa = refl; wb = refl; wc = refl; wd = refl } in
    record { mix = mix; said = said; is = each mix said; each = each }

-- a block that a mix of two phases makes
pub mixed-block : {px py : ℕ} (s x y w h : ℕ) (src : List ℕ) (stride from : ℕ) (l : List ℕ) {mix : Mix} → MixFor px py stride mix → painted s x y w h (mixed_block mix src from) l ≡ painted s x y w h (four_block (formula px py) src stride from) l
unfolding mixed_block mixed_row mixed_at paired_block paired_row four_block four_row
mixed-block s x y w h src stride from l {mix} m =
    painted-values s x y w h _ _ l
    (λ r c lr lc. ap (λ (n : ℕ). mixed_at mix src (from + r * n + c)) m.rows ∙ m.is src (from + r * stride + c))
