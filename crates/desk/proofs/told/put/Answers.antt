-- `told::put`: the counts as one part, at the start.
use mathlib.Core.Path.{◌≡◌, refl, sym, ap, ◌∙◌}
use mathlib.Core.List.{List, [], ◌∷◌, ◌++◌}
use Prim.Native.Nat.{ℕ, ◌+◌}
use native.Mathlib.Omega.{arith}
use lib.ListN.{length, take, drop}
use Rattle.std.proofs.lemmas.List.Edits.{sets-eq}
use Rattle.desk.proofs.told.put.Goals as goal

none : (xs : List ℕ) → take 0 xs ≡ []
none [] = refl
none (x ∷ xs) = refl

pub returns : goal.returns
returns g c =
    let a = c.args in
    let e : 0 + length a.told.now ≡ g.row.N = omega arith in
    ap (λ t. t ++ drop g.row.N a.counts.now) (c.copy_from_slice.ensures.after) ∙ ap (λ n. a.told.now ++ drop n a.counts.now) (sym e) ∙ ap (λ t. t ++ a.told.now ++ drop (0 + length a.told.now) a.counts.now) (sym (none a.counts.now)) ∙ sym (sets-eq a.told.now a.counts.now 0 (omega (arith, e, c.requires)))
