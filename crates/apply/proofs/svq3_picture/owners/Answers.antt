-- `apply::svq3_picture::owners`: each digit of each mode, by computation.
use mathlib.Core.Path.{◌≡◌, refl}
use mathlib.Core.Bool.{Bool}
use Prim.Native.Nat.{ℕ, zero, suc, ◌*◌, ◌/◌, ◌%◌, ◌^◌, ◌<◌}
use native.Mathlib.Omega.{arith}
use lib.Dec.{T, eqb, eqb→eq}
use Rattle.bits.proofs.Table.{every, at}
use Rattle.vectors.specs.Modes.{partition_width, partition_height}
use Rattle.apply.specs.InnerCells.{owner_of}
use Rattle.apply.proofs.svq3_picture.owners.Goals as goal

-- the digits of a word are right
abbrev Right : ℕ → ℕ → Type 0
Right w mode = (c d : ℕ) → c < 4 → d < 4 → w / 2 ^ (16 * d) / 2 ^ (4 * c) % 16 ≡ owner_of mode c d

abbrev right : ℕ → ℕ → Bool
right w mode = every (λ d. every (λ c. eqb (w / 2 ^ (16 * d) / 2 ^ (4 * c) % 16) (owner_of mode c d)) 4) 4

known : (w mode m : ℕ) → mode ≡ m → T (right w m) → Right w mode
known w mode m e t c d lc ld = rw e (eqb→eq _ _ (at (λ c. eqb (w / 2 ^ (16 * d) / 2 ^ (4 * c) % 16) (owner_of m c d)) 4 (at (λ d. every (λ c. eqb (w / 2 ^ (16 * d) / 2 ^ (4 * c) % 16) (owner_of m c d)) 4) 4 t d ld) c lc))

-- a skip, and one partition alone
alone : (mode : ℕ) → mode < 2 → Right 0 mode
unfolding owner_of partition_width partition_height
alone zero h = known 0 0 0 refl tt
alone (suc zero) h = known 0 1 1 refl tt
alone (suc (suc m)) h = absurd (omega arith)

pub returns-in-2 : goal.returns-in-2
unfolding owner_of partition_width partition_height
returns-in-2 c = known _ c.args.mode 2 (omega (arith, c.in-2.is)) tt

pub returns-in-3 : goal.returns-in-3
unfolding owner_of partition_width partition_height
returns-in-3 c = known _ c.args.mode 3 (omega (arith, c.in-3.is)) tt

pub returns-in-4 : goal.returns-in-4
unfolding owner_of partition_width partition_height
returns-in-4 c = known _ c.args.mode 4 (omega (arith, c.in-4.is)) tt

pub returns-in-5 : goal.returns-in-5
unfolding owner_of partition_width partition_height
returns-in-5 c = known _ c.args.mode 5 (omega (arith, c.in-5.is)) tt

pub returns-in-6 : goal.returns-in-6
unfolding owner_of partition_width partition_height
returns-in-6 c = known _ c.args.mode 6 (omega (arith, c.in-6.is)) tt

pub returns-in-7 : goal.returns-in-7
unfolding owner_of partition_width partition_height
returns-in-7 c = known _ c.args.mode 7 (omega (arith, c.in-7.is)) tt

pub returns-in_default : goal.returns-in_default
returns-in_default c = alone c.args.mode (omega arith)
