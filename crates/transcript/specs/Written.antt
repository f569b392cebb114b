-- What is left where bytes are written.
-- Assumes nothing.
use Rattle.std.specs.Prelude.{◌≡◌, List, ℕ, ◌+◌, length}
use Rattle.std.proofs.lemmas.List.Edits.{sets}

-- bytes written to `out` from a place on: the place after them, and what `out` holds then
pub record Written (out : List ℕ) (at : ℕ) (bytes : List ℕ) (next : ℕ) (left : List ℕ) : Type 0 where
  pub moved : next ≡ at + length bytes
  pub leaves : left ≡ sets out at bytes
