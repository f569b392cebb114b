-- `state::sides_fit` meets its contract: the tests are the definition's.
use Rattle.state.specs.Questions.{sides_fit}
use Rattle.state.proofs.sides_fit.Goals as goal

pub returns-then-w-most : goal.returns-then-w-most
unfolding sides_fit
returns-then-w-most c = rw c.if-w-most.true

pub returns-else-w-most : goal.returns-else-w-most
unfolding sides_fit
returns-else-w-most c = rw c.if-w-most.false
