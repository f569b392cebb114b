-- `compensation::window::fill_run` meets its contract.
use mathlib.Core.Path.{◌≡◌, ap, ◌∙◌}
use mathlib.Core.List.{List}
use Prim.Native.Nat.{ℕ, ◌+◌}
use native.Mathlib.Omega.{arith}
use lib.ListN.{length, get_or}
use Rattle.std.proofs.lemmas.List.{get_or-replicate}
use Rattle.std.proofs.lemmas.List.Edits.{length-between}
use Rattle.compensation.proofs.Runs.{put-run}
use Rattle.compensation.proofs.window.fill_run.Goals as goal

pub returns : goal.returns
returns c =
    let a = c.args in
    let f = c.fill in
    let after = f.ensures.after (λ y e. e) in
    let part = length-between a.window.now a.at (a.at + 17) c.requires in
    let long : length f.new.self ≡ 17 = f.ensures.len ∙ part ∙ omega arith in
    put-run a.window.now f.new.self a.at (λ k. a.sample) 17 (omega arith) long (omega arith)
    (λ k lt. ap (λ (ys : List ℕ). get_or ys k 0) after ∙ get_or-replicate _ k a.sample 0 (omega (arith, part)))
