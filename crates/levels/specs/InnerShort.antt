-- The look-ups of short codes. Contracts inside the readers cite them; no answer of an entry rests on them.
-- Assumes nothing.
use Rattle.std.specs.Prelude.{List, ℕ, ◌/◌, ◌%◌, ℤ, pos, ◌-ℤ◌}
use Rattle.levels.specs.InnerEntries.{normal_scan, chroma_dc}
use Rattle.levels.specs.declared.svq3_coeff.ResidualBook.{ResidualBook}
use Rattle.levels.specs.declared.svq3_coeff.ResidualBook.TheVariants.{NormalScan, ChromaDc}

abbrev pub entries : ResidualBook → List ℕ
entries NormalScan = normal_scan
entries ChromaDc = chroma_dc

-- the parts of an entry: the code's number of bits, 255 where no code was found; its run; its level
abbrev pub entry_size : ℕ → ℕ
entry_size e = e % 256

abbrev pub entry_run : ℕ → ℕ
entry_run e = e / 256 % 256

unfoldable pub entry_level : ℕ → ℤ
entry_level e = pos (e / 65536) -ℤ pos 4
