-- `transcript::write::put_signed_numbers`: the numbers that are left, written at their place, give the whole.
use mathlib.Core.Path.{◌≡◌}
use borrow.Author.Rules.{rules}
use lib.IntN.{pos}
use lib.ListN.{get_or}
use mir.Syntax.{w32}
use mir.Val.{to_z, of_z}
use Rattle.transcript.proofs.Writing.{still-none, number_fits, number_more, no-numbers}
use Rattle.transcript.proofs.write.put_signed_numbers.Goals as goal

pub put_signed_number-p-requires : goal.put_signed_number-p-requires
put_signed_number-p-requires c =
    let l = c.loop-v in
    let z : to_z w32 (of_z w32 (get_or c.args.numbers.now l.v-index (pos 0))) ≡ get_or c.args.numbers.now l.v-index (pos 0) = search rules in
    number_fits c.args.numbers.now l.v-index c.loop-v-test.true l.invariant _ z c.requires

pub loop-v-preserved : goal.loop-v-preserved
loop-v-preserved c =
    let l = c.loop-v in
    let z : to_z w32 (of_z w32 (get_or c.args.numbers.now l.v-index (pos 0))) ≡ get_or c.args.numbers.now l.v-index (pos 0) = search rules in
    number_more c.args.numbers.now l.v-index c.loop-v-test.true l.invariant _ z _ _ c.put_signed_number-p.ensures

pub returns : goal.returns
returns c = still-none c.loop-v.invariant (no-numbers c.args.numbers.now c.loop-v.v-index c.loop-v-test.false)
