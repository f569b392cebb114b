-- `transcript::write::put_list`: short numbers are the bytes that they are sent as; others go the long way.
use mathlib.Core.Path.{sym, ◌∙◌}
use Rattle.transcript.proofs.Sent.{short-fits, short-written}
use Rattle.transcript.proofs.write.put_list.Goals as goal

pub put_short-requires : goal.put_short-requires
put_short-requires c =
    let e = sym c.all_short.ensures ∙ c.if-all_short.true in
    short-fits c.args.numbers.now _ c.requires.0 c.take_held-sixteen.ensures e c.args.out.now c.args.at c.requires.1

pub returns-then-all_short : goal.returns-then-all_short
returns-then-all_short c =
    let e = sym c.all_short.ensures ∙ c.if-all_short.true in
    short-written c.args.numbers.now _ c.requires.0 c.take_held-sixteen.ensures e c.args.out.now c.args.at c.put_short.ensures
