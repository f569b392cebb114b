-- A block that is lent as a struct: for inner contracts.
-- Assumes nothing.
use Rattle.std.specs.Prelude.{List, ℕ}
use Rattle.picture.specs.Painted.{Inside, painted}
use Rattle.picture.specs.declared.Block.{Block}

-- its places lie within a plane of `size`
abbrev pub BlockIn : Block → ℕ → Type 0
BlockIn b size = Inside b.stride b.x b.y b.w b.h size

-- a plane with `value r c` at column c of the block's row r
abbrev pub block_painted : Block → (ℕ → ℕ → ℕ) → List ℕ → List ℕ
block_painted b value plane = painted b.stride b.x b.y b.w b.h value plane
