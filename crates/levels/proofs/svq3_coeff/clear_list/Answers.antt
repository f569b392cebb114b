-- `levels::svq3_coeff::clear_list` clears as many levels as the list has positions.
use mathlib.Core.Path.{refl}
use mathlib.Core.Path.{◌≡◌, ap, subst, ◌∙◌}
use Prim.Native.Nat.{ℕ, ◌+◌, ◌-◌, ◌≤◌}
use native.Mathlib.Omega.{arith}
use lib.IntN.{ℤ, pos}
use lib.ListN.{length, take, drop, replicate}
use mathlib.Core.List.{List}
use Rattle.refusal.proofs.Parts.{part-sets, part-length}
use Rattle.levels.specs.Book.{positions}
use Rattle.levels.proofs.svq3_coeff.clear_list.Goals as goal

part-same : (base n : ℕ) (out : List ℤ) → base + n ≤ length out → length (take (base + n - base) (drop base out)) ≡ n
part-same base n out h = let k : base + n - base ≡ n = omega arith in rw k (part-length base n out h)

pub returns-in-NormalScan : goal.returns-in-NormalScan
returns-in-NormalScan c =
    let a = c.args in
    let h : a.base + 16 ≤ length a.out.now = subst (λ b. a.base + positions b ≤ length a.out.now) c.in-NormalScan.is c.requires in
    let z = c.fill.ensures.after (λ y same. same) ∙ ap (λ (n : ℕ). replicate n (pos 0)) (part-same a.base 16 a.out.now h) in
    rw c.in-NormalScan.is (part-sets a.base 16 a.out.now _ _ z refl h)

pub returns-in-ChromaDc : goal.returns-in-ChromaDc
returns-in-ChromaDc c =
    let a = c.args in
    let h : a.base + 4 ≤ length a.out.now = subst (λ b. a.base + positions b ≤ length a.out.now) c.in-ChromaDc.is c.requires in
    let z = c.fill-in-ChromaDc.ensures.after (λ y same. same) ∙ ap (λ (n : ℕ). replicate n (pos 0)) (part-same a.base 4 a.out.now h) in
    rw c.in-ChromaDc.is (part-sets a.base 4 a.out.now _ _ z refl h)
