-- A mode has at most sixteen partitions.
use mathlib.Core.Path.{◌≡◌}
use Prim.Native.Nat.{ℕ, ◌≤◌}
use Rattle.vectors.specs.Modes.{num_motion_vectors}
use Rattle.vectors.proofs.Partitions.{num-most}

pub few : (n mode : ℕ) → n ≡ num_motion_vectors mode → mode ≤ 7 → n ≤ 16
few n mode e h = rw e (num-most mode h)
