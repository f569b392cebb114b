-- What was tested is what `add_exact` asks.
use Rattle.std.proofs.Common.{sym, ◌∙◌}
use Rattle.transform.proofs.Unsaturated.{small-exact}
use Rattle.transform.proofs.four.add_four.Goals as goal

pub add_exact-requires-clause-exact : goal.add_exact-requires-clause-exact
add_exact-requires-clause-exact c =
    small-exact c.args.scale.by c.args.levels.now c.args.dc.now c.requires.levels.0 (sym c.all_small.ensures ∙ c.if-all_small.true)
