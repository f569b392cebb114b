-- `state::place_in` meets its contract: by the two tests.
use borrow.Author.Tests.{lt-ltb, le-ltb}
use Rattle.state.specs.Questions.{place_in}
use Rattle.state.proofs.place_in.Goals as goal

pub returns-then-size-lt2305843009213693952 : goal.returns-then-size-lt2305843009213693952
unfolding place_in
returns-then-size-lt2305843009213693952 c = rw (lt-ltb _ _ c.if-size-lt2305843009213693952.true)

pub returns-else-size-lt2305843009213693952 : goal.returns-else-size-lt2305843009213693952
unfolding place_in
returns-else-size-lt2305843009213693952 c = rw (le-ltb _ _ c.if-size-lt2305843009213693952.false)
