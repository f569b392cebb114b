-- Reading a macroblock depends on the bits that it takes, and on none behind them; it takes no more than there are.
-- Assumes nothing.
use mathlib.Core.Bool.{Bool, true, false, ◌&&◌, not}
use mathlib.Core.List.{List}
use Prim.Native.Nat.{ℕ, zero, suc}
use lib.Dec.{eqb}
use Rattle.ints.specs.Z.{when◌then◌else◌}
use Rattle.refusal.specs.Got.{Got}
use Rattle.refusal.proofs.Local.{Local, of_format, of-got, of-refused, then-local, map-local}
use Rattle.bits.specs.Signed.{signed_code}
use Rattle.bits.proofs.SignedCode.{signed-format}
use Rattle.levels.proofs.Patterns.{pattern-format}
use Rattle.vectors.specs.Modes.{num_motion_vectors}
use Rattle.vectors.proofs.Precisions.{precision-format}
use Rattle.vectors.specs.declared.svq3_mb.Svq3MvPrecision.{Svq3MvPrecision}
use Rattle.state.specs.declared.Call.{Call}
use Rattle.levels.proofs.ItemFormats.{items-format}
use Rattle.state.specs.State.{Context}
use Rattle.reading.specs.Read.{Moving, moved, read_vectors, quantiser_in, read_quantiser, record_of, at_first, read_residual, read_coded, read_macroblock}

if-local : {E X : Type 0} {f g : List E → Got X} (t : Bool) → Local f → Local g → Local (λ s. when t then f s else g s)
unfolding when◌then◌else◌
if-local true F G = F
if-local false F G = G

signed-local : Local signed_code
signed-local = of_format signed-format

vectors-local : (call : Call) (p : Svq3MvPrecision) (n i : ℕ) (m : Moving) → Local (read_vectors call p n i m)
unfolding read_vectors
vectors-local call p zero i m = of-got m
vectors-local call p (suc n) i m =
    then-local signed-local (λ dy. then-local signed-local (λ dx. vectors-local call p n (suc i) (moved call p i m dy dx)))

quantiser-local : (delta : Bool) (q pattern : ℕ) → Local (read_quantiser delta q pattern)
unfolding read_quantiser quantiser_in
quantiser-local delta q pattern =
    if-local (not (eqb pattern 0) && delta)
    (then-local signed-local (λ d. if-local _ (of-got _) (of-refused _)))
    (of-got q)

coded-local : (c : Context) (call : Call) → Local (read_coded c call)
unfolding read_coded read_residual
coded-local c call =
    then-local (of_format (precision-format c.halfpel c.thirdpel)) (λ p.
    then-local (vectors-local call p (num_motion_vectors call.mode) 0 (at_first c.field)) (λ m.
    then-local (of_format pattern-format) (λ v.
    then-local (quantiser-local c.delta c.quantiser v) (λ q.
    map-local (record_of call p m v q) (of_format (items-format v))))))

-- ALONE
pub read-local : (c : Context) (call : Call) → Local (read_macroblock c call)
unfolding read_macroblock
read-local c call = if-local (eqb call.mode 0) (of-got _) (coded-local c call)
