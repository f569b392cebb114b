-- Each return is what `clamp_z` gives at each outcome of its tests, since an outcome that is not the code's own is absurd.
use native.Mathlib.Omega.{arith}
use Rattle.std.proofs.lemmas.Int.{ints}
use Rattle.ints.proofs.Fits.{is-clamp}
use Rattle.ints.proofs.clamp_i64.Goals as goal

pub returns-then-v-lo : goal.returns-then-v-lo
returns-then-v-lo c = is-clamp (λ e. omega (arith, ints)) (λ e f. omega (arith, ints)) (λ e f. omega (arith, ints))

pub returns-then-hi-v : goal.returns-then-hi-v
returns-then-hi-v c = is-clamp (λ e. omega (arith, ints)) (λ e f. omega (arith, ints)) (λ e f. omega (arith, ints))

pub returns-else-hi-v : goal.returns-else-hi-v
returns-else-hi-v c = is-clamp (λ e. omega (arith, ints)) (λ e f. omega (arith, ints)) (λ e f. omega (arith, ints))
