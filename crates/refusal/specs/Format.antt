-- A format: each value that is in range is written in one way, and a reader takes exactly what is written, whatever follows.
-- Assumes nothing.
use Rattle.std.specs.Prelude.{◌≡◌, List, ◌++◌, ℕ, length}
use Rattle.refusal.specs.Got.{Got, got}

-- s begins with w: `rest` is what follows
pub record Starts {E : Type 0} (w s : List E) : Type 0 where
  pub rest : List E
  pub is : s ≡ w ++ rest

-- x was read from s, and n elements of s were taken: they are what is written for x
pub record Came {E X : Type 0} (write : X → List E) (fine : X → Type 0) (s : List E) (x : X) (n : ℕ) : Type 0 where
  pub in_range : fine x
  pub starts : Starts (write x) s
  pub taken : n ≡ length (write x)

pub record Format {E X : Type 0} (read : List E → Got X) (write : X → List E) (fine : X → Type 0) : Type 0 where
  -- what is written is read, with anything behind it
  pub reads : (x : X) (rest : List E) → fine x → read (write x ++ rest) ≡ got x (length (write x))
  -- what is read was written
  pub came : (s : List E) (x : X) (n : ℕ) → read s ≡ got x n → Came write fine s x n
