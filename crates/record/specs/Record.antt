-- A record: what one macroblock does to the state.
-- Assumes nothing.
use Rattle.std.specs.Prelude.{List, ℕ, ℤ, pos, replicate}
use Rattle.record.specs.declared.Head.{Head}
use Rattle.levels.specs.Items.{no_levels}

-- the numbers; each partition's vector in sixths, horizontal then vertical, then zeros, 32 numbers in all; the levels, each coded list at its place and zeros elsewhere, 392 in all
pub record Record : Type 0 where
  pub head : Head
  pub vectors : List ℤ
  pub levels : List ℤ

-- all zeros
unfoldable pub no_vectors : List ℤ
no_vectors = replicate 32 (pos 0)

-- a head with its place and its mode alone
abbrev pub place_head : ℕ → ℕ → ℕ → Head
place_head column row mode = record { column = column; row = row; mode = mode; precision = 0; clipped = 0; pattern = 0; quantiser = 0 }

-- with what comes with the vectors, and with the levels
abbrev pub with_motion : Head → ℕ → ℕ → Head
with_motion h precision clipped = record { column = h.column; row = h.row; mode = h.mode; precision = precision; clipped = clipped; pattern = h.pattern; quantiser = h.quantiser }

abbrev pub with_residual : Head → ℕ → ℕ → Head
with_residual h pattern quantiser = record { column = h.column; row = h.row; mode = h.mode; precision = h.precision; clipped = h.clipped; pattern = pattern; quantiser = quantiser }

-- mode 0: nothing more
abbrev pub skip_head : ℕ → ℕ → Head
skip_head column row = place_head column row 0

unfoldable pub skip_record : ℕ → ℕ → Record
skip_record column row = record { head = skip_head column row; vectors = no_vectors; levels = no_levels }
